-- Fields that hold no node: the event that they are.
-- Assumes nothing.
use mathlib.Core.Path.{◌≡◌, refl, sym, ap}
use mathlib.Core.List.{List, [], ◌∷◌}
use Prim.Native.Nat.{ℕ, ◌+◌, ◌-◌, ◌<◌, ◌≤◌}
use native.Mathlib.Omega.{arith}
use lib.ListN.{length, take, drop}
use borrow.Author.Tests.{lt-ltb, le-ltb, le-leb, lt-leb}
use Rattle.tree.specs.Grammar.Sort.{text, byte, mark, number}
use Rattle.tree.specs.Read.{byte_at, wide_at, read_text, read_byte, read_mark, read_number, read_field}
use Rattle.tree.specs.Read.Got.{got}
use Rattle.tree.specs.Answer.{Peeked, Wide}
use Rattle.rewritten.specs.Events.{Event, events_piece}
use Rattle.rewritten.specs.Pending.{piece_comes}
use Rattle.rewritten.specs.Look.{Leaf, LeafIs}
use Rattle.rewritten.specs.declared.step.Event.TheVariants.{Text, Byte, Mark, Number}

module _ (l : List ℕ) (at n : ℕ) (w : Wide l at n) where
  pub text_missing : 65535 < n → LeafIs l text at Leaf.missing
  unfolding piece_comes read_field read_text
  text_missing h =
      let v : n ≡ wide_at l at = w.value in
      let g : length l ≤ at + 1 = w.past h in
      record { so = rw (lt-leb (at + 2 + wide_at l at) (length l) (omega arith)) }

  pub text_short : n ≤ 65535 → length l - (at + 2) < n → LeafIs l text at Leaf.missing
  unfolding piece_comes read_field read_text
  text_short h f =
      let v : n ≡ wide_at l at = w.value in
      record { so = rw (lt-leb (at + 2 + wide_at l at) (length l) (omega arith)) }

  pub text_found : n ≤ 65535 → n ≤ length l - (at + 2) → LeafIs l text at (Leaf.found (Text (at + 2) n) (at + 2 + n))
  unfolding piece_comes read_field read_text events_piece
  text_found h f =
      let v : n ≡ wide_at l at = w.value in
      let g : at + 1 < length l = w.within (omega arith) in
      record { so = (rw (le-leb (at + 2 + wide_at l at) (length l) (omega arith)) (ap (λ (m : ℕ). got (Event.text (take m (drop (at + 2) l)) ∷ []) (at + 2 + m) 1) (sym v)), (refl, v, omega arith, refl), omega arith, omega arith, λ d. refl, λ d r fs. refl) }

  pub mark_found : n < 65536 → LeafIs l mark at (Leaf.found (Mark n) (at + 2))
  unfolding piece_comes read_field read_mark events_piece
  mark_found h =
      let v : n ≡ wide_at l at = w.value in
      let g : at + 1 < length l = w.within (omega arith) in
      record { so = (rw (lt-ltb (wide_at l at) 65536 (omega arith)) (ap (λ (m : ℕ). got (Event.mark m ∷ []) (at + 2) 1) (sym v)), (v, h, refl), omega arith, omega arith, λ d. refl, λ d r fs. refl) }

  pub mark_missing : 65536 ≤ n → LeafIs l mark at Leaf.missing
  unfolding piece_comes read_field read_mark
  mark_missing h =
      let v : n ≡ wide_at l at = w.value in
      record { so = rw (le-ltb (wide_at l at) 65536 (omega arith)) }

  pub number_found : n < 65536 → LeafIs l number at (Leaf.found (Number n) (at + 2))
  unfolding piece_comes read_field read_number events_piece
  number_found h =
      let v : n ≡ wide_at l at = w.value in
      let g : at + 1 < length l = w.within (omega arith) in
      record { so = (rw (lt-ltb (wide_at l at) 65536 (omega arith)) (ap (λ (m : ℕ). got (Event.number m ∷ []) (at + 2) 1) (sym v)), (v, h, refl), omega arith, omega arith, λ d. refl, λ d r fs. refl) }

  pub number_missing : 65536 ≤ n → LeafIs l number at Leaf.missing
  unfolding piece_comes read_field read_number
  number_missing h =
      let v : n ≡ wide_at l at = w.value in
      record { so = rw (le-ltb (wide_at l at) 65536 (omega arith)) }

module _ (l : List ℕ) (a b at n : ℕ) (p : Peeked l at n) where
  pub byte_found : n < 256 → a ≤ n → n ≤ b → LeafIs l (byte a b) at (Leaf.found (Byte n) (at + 1))
  unfolding piece_comes read_field read_byte events_piece
  byte_found h f g =
      let v : n ≡ byte_at l at = p.value in
      let i : at < length l = p.within h in
      record { so = (rw (lt-ltb (byte_at l at) 256 (omega arith), le-leb a (byte_at l at) (omega arith), le-leb (byte_at l at) b (omega arith)) (ap (λ (m : ℕ). got (Event.byte m ∷ []) (at + 1) 1) (sym v)), (v, h, refl), omega arith, omega arith, λ d. refl, λ d r fs. refl) }

  pub byte_high : n < 256 → a ≤ n → b < n → LeafIs l (byte a b) at Leaf.missing
  unfolding piece_comes read_field read_byte
  byte_high h f g =
      let v : n ≡ byte_at l at = p.value in
      record { so = rw (lt-ltb (byte_at l at) 256 (omega arith), le-leb a (byte_at l at) (omega arith), lt-leb (byte_at l at) b (omega arith)) }

  pub byte_low : n < 256 → n < a → LeafIs l (byte a b) at Leaf.missing
  unfolding piece_comes read_field read_byte
  byte_low h f =
      let v : n ≡ byte_at l at = p.value in
      record { so = rw (lt-ltb (byte_at l at) 256 (omega arith), lt-leb a (byte_at l at) (omega arith)) }

  pub byte_missing : 256 ≤ n → LeafIs l (byte a b) at Leaf.missing
  unfolding piece_comes read_field read_byte
  byte_missing h =
      let v : n ≡ byte_at l at = p.value in
      record { so = rw (le-ltb (byte_at l at) 256 (omega arith)) }
