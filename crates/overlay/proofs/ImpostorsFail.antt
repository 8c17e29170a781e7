-- The law fails for each impostor, at one literal and one outside. It does not fail for a tree that is only copied: that a lowering
-- lowers is for the rule.
-- Assumes nothing.
use mathlib.Core.Path.{◌≡◌, refl, ap}
use mathlib.Core.List.{List, [], ◌∷◌}
use Prim.Native.Nat.{ℕ, ◌+◌, ◌*◌}
use native.Mathlib.Omega.{arith}
use Rattle.lowering.specs.Parts.{is, node_at_of, items_at_of, text_at_of, number_at, piece_in, stands, stands_in, is_empty, only, ◌+++◌}
use Rattle.lowering.specs.Literals.{opened, closed, scan}
use Rattle.overlay.specs.Objects.{Key, Value, same, rank, put, names_first}
use Rattle.overlay.specs.Run.{Step, History, Out, is_blank, copy, copy_s, calls_s, is_written, spelled, makes, keyed, defined, run}
use Rattle.overlay.specs.Run.Step.{evaluates, computes, names, converts, lists, reads}
use Rattle.overlay.specs.Run.Reply.{gives}
use Rattle.overlay.specs.Run.Out.{ok, threw, beyond, stuck}
use Rattle.overlay.specs.Plain.{bare, fine_key, fine_method, plain, given}
use Rattle.overlay.specs.Law.{Fair, Overlay, Faithful}
use Rattle.overlay.specs.Examples.{a, b, x, kx, k7, spread, counter}
use Rattle.overlay.specs.Objects.Value.{outer}
use Rattle.overlay.proofs.PropertiesInTurn.{none_lacked}
use Rattle.overlay.specs.Impostors.{second, backwards, gathered, lost}

pub counter_sorted : (ks : List Key) → gives (k7 ∷ kx ∷ []) ≡ gives ks → names_first ks ≡ ks
counter_sorted ks e = let q : ks ≡ k7 ∷ kx ∷ [] = cc in rw q refl

pub fair : Fair counter
fair = record {
  tamed = λ n q. record { steady = λ h k l. refl; sorted = λ h ks e. counter_sorted ks e; owned = λ h ks e. none_lacked counter (lists (outer n) ∷ h) n (λ k. refl) ks; strict = refl };
  unmeddled = λ h. refl;
  intact = λ h ks. refl;
}

-- ---- steps as one number

abbrev letter : List ℕ → ℕ
letter [] = 0
letter (c ∷ cs) = c

abbrev digit : Step → ℕ
digit (evaluates n) = letter (text_at_of 0 n)
digit (computes n) = 1
digit (names f k n) = 2
digit (converts n) = 3
digit (lists o) = 4
digit (reads o k) = 5

abbrev coded : History → ℕ
coded [] = 0
coded (s ∷ h) = digit s + 256 * coded h

abbrev told : Out Value → ℕ
told (ok h o) = coded h
told (threw h n) = coded h
told (beyond h n) = 0
told (stuck h) = 0

-- ---- the impostors

pub second_fails : Overlay second second → ⊥
unfolding scan opened closed ◌+++◌ is node_at_of items_at_of text_at_of number_at piece_in stands stands_in run is_blank is_empty copy copy_s calls_s is_written spelled makes keyed defined put same rank plain given bare fine_key fine_method
second_fails law = let e = ap told (law counter fair (λ n. evaluates n) 0 0 (only (spread a)) (only x) [] refl refl) in omega arith

pub backwards_fails : Overlay backwards backwards → ⊥
unfolding scan opened closed ◌+++◌ is node_at_of items_at_of text_at_of number_at piece_in stands stands_in run is_blank is_empty copy copy_s calls_s is_written spelled makes keyed defined put same rank plain given bare fine_key fine_method
backwards_fails law = let e = ap told (law counter fair (λ n. evaluates n) 0 0 (only (spread a)) (only (spread b)) [] refl refl) in omega arith

pub gathered_fails : Overlay gathered gathered → ⊥
unfolding scan opened closed ◌+++◌ is node_at_of items_at_of text_at_of number_at piece_in stands stands_in run is_blank is_empty copy copy_s calls_s is_written spelled makes keyed defined put same rank plain given bare fine_key fine_method
gathered_fails law = let e = ap told (law counter fair (λ n. evaluates n) 0 0 (only (spread a)) (only x) [] refl refl) in omega arith

pub lost_fails : Overlay lost lost → ⊥
unfolding scan opened closed ◌+++◌ is node_at_of items_at_of text_at_of number_at piece_in stands stands_in run is_blank is_empty copy copy_s calls_s is_written spelled makes keyed defined put same rank plain given bare fine_key fine_method
lost_fails law = let e = ap told (law counter fair (λ n. evaluates n) 0 0 (only (spread a)) (only x) [] refl refl) in omega arith

pub copied_passes : Faithful (λ n. n)
copied_passes W fair how n h g e = refl
