-- Laws of the text: references and bindings print their bytes; the entry gives the text of a tree.
-- Assumes nothing.
use mathlib.Core.Path.{◌≡◌, ap}
use mathlib.Core.List.{List}
use mathlib.Core.Logic.{◌⊎◌, ⊎_elim}
use mathlib.Core.Logic.◌⊎◌.{inl, inr}
use Prim.Native.Nat.{ℕ, ◌/◌}
use native.Mathlib.Omega.{arith}
use native.Mathlib.Decide.{dec_lt}
use Rattle.tree.specs.Tree.{Node, encode, placed}
use Rattle.tree.specs.Read.{Got}
use Rattle.rewritten.specs.Rewritten.{read_rewritten, Rewritten}
use Rattle.rewritten.proofs.RewrittenExact.{rewritten_complete}
use Rattle.printer.specs.Layout.{words, word, choices, chosen_word, layout, lead_of}
use Rattle.printer.specs.Places.{text_bytes}
use Rattle.printer.specs.Outcome.{fitted, outcome}
use Rattle.printer.specs.Text.{text_of}
use Rattle.printer.specs.declared.frame.Frame.{Frame}

-- 18 and 19 print their bytes
pub names_print : (f : Frame) (bs : List ℕ) → (f.kind ≡ 18) ⊎ (f.kind ≡ 19) → text_bytes f bs ≡ bs
unfolding text_bytes chosen_word choices lead_of layout word words
names_print f bs e = ⊎_elim (λ r. rw r) (λ b. rw b) e

pub name_bytes_lem : (f : Frame) (bs : List ℕ) → f.kind / 2 ≡ 9 → text_bytes f bs ≡ bs
name_bytes_lem f bs e = elim (dec_lt f.kind 19) [
  | yes h ↦ names_print f bs (inl (omega (arith, e, h)))
  | no h ↦ names_print f bs (inr (omega (arith, e, h)))
]

-- the entry and the definition: what is handed back for the bytes of a rewritten tree is its text (for any bytes: the contract of rest_spread_text)
pub text_is : (n : Node) → Rewritten n → (size : ℕ) → outcome (read_rewritten (encode n)) size ≡ fitted size (text_of (placed n 0))
text_is n w size = ap (λ (g : Got Node). outcome g size) (rewritten_complete n w)
