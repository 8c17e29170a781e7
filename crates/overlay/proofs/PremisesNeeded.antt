-- No premise can be left out: each outside keeps the others, and a lowered `{...a}` differs from `{...a}`.
-- Assumes nothing.
use mathlib.Core.Path.{◌≡◌, refl, ap}
use mathlib.Core.List.{List, [], ◌∷◌}
use Prim.Native.Nat.{ℕ, ◌+◌, ◌*◌}
use native.Mathlib.Omega.{arith}
use lib.ListN.{length}
use Rattle.lowering.specs.Parts.{is, node_at_of, items_at_of, number_at, piece_in, stands_in, is_empty, any, ◌+++◌}
use Rattle.lowering.specs.Literals.{opened, closed, scan, literal}
use Rattle.lowering.specs.Walk.{rule_of, rewrite, opens_scope, within, each_item_of, each_piece, each_field, inside, walk}
use Rattle.lowering.specs.Weight.{is_head, extra, factor, weight, walked}
use Rattle.lowering.specs.Collect.{bare, numbered, with_number}
use Rattle.overlay.specs.Objects.{Key, Value, same, rank, put, names_first}
use Rattle.overlay.specs.Objects.Key.{name, symbol}
use Rattle.overlay.specs.Objects.Value.{outer}
use Rattle.overlay.specs.Run.{Step, History, Out, is_blank, copy, copy_s, calls_s, run}
use Rattle.overlay.proofs.PropertiesInTurn.{none_lacked}
use Rattle.overlay.specs.Run.Step.{evaluates, computes, names, converts, lists, reads}
use Rattle.overlay.specs.Run.Reply.{gives}
use Rattle.overlay.specs.Run.Out.{ok, threw, beyond, stuck}
use Rattle.overlay.specs.Whole.{leaves}
use Rattle.overlay.specs.Examples.{kx, k7}
use Rattle.overlay.specs.Premises.{hiding, mixed, lacking, undetectable, meddling, emptied, indexed, Alike, Steady, Sorted, Owned, Strict, Unmeddled, UnmeddledAtFirst, Intact}
use Rattle.overlay.proofs.ImpostorsFail.{counter_sorted}

-- ---- what tells the runs apart: how many steps, whether the last one reads a symbol, and whether the run throws

abbrev key_number : Key → ℕ
key_number (name s) = 1
key_number (symbol n) = 2

abbrev step_number : Step → ℕ
step_number (evaluates n) = 0
step_number (computes n) = 0
step_number (names f k n) = 0
step_number (converts n) = 0
step_number (lists o) = 0
step_number (reads o k) = key_number k

abbrev last_number : History → ℕ
last_number [] = 0
last_number (s ∷ h) = step_number s + 10 * length h

abbrev told : Out Value → ℕ
told (ok h o) = last_number h
told (threw h n) = 5 + last_number h
told (beyond h n) = last_number h
told (stuck h) = last_number h

sorted_turned : (ks : List Key) → gives (kx ∷ k7 ∷ []) ≡ gives ks → names_first ks ≡ ks
sorted_turned ks e = let q : ks ≡ kx ∷ k7 ∷ [] = cc in rw q refl

sorted_one : (ks : List Key) → gives (symbol 5 ∷ []) ≡ gives ks → names_first ks ≡ ks
sorted_one ks e = let q : ks ≡ symbol 5 ∷ [] = cc in rw q refl

-- ---- one premise each

pub hiding_fails : Sorted hiding × Owned hiding × Strict hiding × Unmeddled hiding × Intact hiding × (Alike hiding → ⊥)
unfolding leaves walked walk weight extra factor is_head stands_in rewrite rule_of literal scan opened closed ◌+++◌ any is node_at_of items_at_of number_at piece_in within opens_scope inside each_field each_piece each_item_of bare numbered with_number run is_blank is_empty copy copy_s calls_s put same rank
hiding_fails = ((λ n h ks e. counter_sorted ks e), (λ n h ks e. none_lacked hiding (lists (outer n) ∷ h) n (λ k. refl) ks), (λ n. refl), (λ h. refl), (λ h ks. refl), (λ e. let q = ap told e in omega arith))

pub mixed_fails : Steady mixed × Owned mixed × Strict mixed × Unmeddled mixed × Intact mixed × (Alike mixed → ⊥)
unfolding leaves walked walk weight extra factor is_head stands_in rewrite rule_of literal scan opened closed ◌+++◌ any is node_at_of items_at_of number_at piece_in within opens_scope inside each_field each_piece each_item_of bare numbered with_number run is_blank is_empty copy copy_s calls_s put same rank
mixed_fails = ((λ n h k l. refl), (λ n h ks e. none_lacked mixed (lists (outer n) ∷ h) n (λ k. refl) ks), (λ n. refl), (λ h. refl), (λ h ks. refl), (λ e. let q = ap told e in omega arith))

pub lacking_fails : Steady lacking × Sorted lacking × Strict lacking × Unmeddled lacking × Intact lacking × (Alike lacking → ⊥)
unfolding leaves walked walk weight extra factor is_head stands_in rewrite rule_of literal scan opened closed ◌+++◌ any is node_at_of items_at_of number_at piece_in within opens_scope inside each_field each_piece each_item_of bare numbered with_number run is_blank is_empty copy copy_s calls_s put same rank
lacking_fails = ((λ n h k l. refl), (λ n h ks e. sorted_one ks e), (λ n. refl), (λ h. refl), (λ h ks. refl), (λ e. let q = ap told e in omega arith))

pub undetectable_fails : Steady undetectable × Sorted undetectable × Owned undetectable × Unmeddled undetectable × Intact undetectable × (Alike undetectable → ⊥)
unfolding leaves walked walk weight extra factor is_head stands_in rewrite rule_of literal scan opened closed ◌+++◌ any is node_at_of items_at_of number_at piece_in within opens_scope inside each_field each_piece each_item_of bare numbered with_number run is_blank is_empty copy copy_s calls_s put same rank
undetectable_fails = ((λ n h k l. refl), (λ n h ks e. counter_sorted ks e), (λ n h ks e. none_lacked undetectable (lists (outer n) ∷ h) n (λ k. refl) ks), (λ h. refl), (λ h ks. refl), (λ e. let q = ap told e in omega arith))

pub meddling_fails : Steady meddling × Sorted meddling × Owned meddling × Strict meddling × UnmeddledAtFirst meddling × Intact meddling × (Alike meddling → ⊥)
unfolding leaves walked walk weight extra factor is_head stands_in rewrite rule_of literal scan opened closed ◌+++◌ any is node_at_of items_at_of number_at piece_in within opens_scope inside each_field each_piece each_item_of bare numbered with_number run is_blank is_empty copy copy_s calls_s put same rank
meddling_fails = ((λ n h k l. refl), (λ n h ks e. sorted_turned ks e), (λ n h ks e. none_lacked meddling (lists (outer n) ∷ h) n (λ k. refl) ks), (λ n. refl), refl, (λ h ks. refl), (λ e. let q = ap told e in omega arith))

pub emptied_fails : Steady emptied × Sorted emptied × Owned emptied × Strict emptied × Unmeddled emptied × (Alike emptied → ⊥)
unfolding leaves walked walk weight extra factor is_head stands_in rewrite rule_of literal scan opened closed ◌+++◌ any is node_at_of items_at_of number_at piece_in within opens_scope inside each_field each_piece each_item_of bare numbered with_number run is_blank is_empty copy copy_s calls_s put same rank
emptied_fails = ((λ n h k l. refl), (λ n h ks e. counter_sorted ks e), (λ n h ks e. none_lacked emptied (lists (outer n) ∷ h) n (λ k. refl) ks), (λ n. refl), (λ h. refl), (λ e. let q = ap told e in omega arith))

pub indexed_fails : Steady indexed × Sorted indexed × Owned indexed × Strict indexed × Unmeddled indexed × (Alike indexed → ⊥)
unfolding leaves walked walk weight extra factor is_head stands_in rewrite rule_of literal scan opened closed ◌+++◌ any is node_at_of items_at_of number_at piece_in within opens_scope inside each_field each_piece each_item_of bare numbered with_number run is_blank is_empty copy copy_s calls_s put same rank
indexed_fails = ((λ n h k l. refl), (λ n h ks e. sorted_one ks e), (λ n h ks e. none_lacked indexed (lists (outer n) ∷ h) n (λ k. refl) ks), (λ n. refl), (λ h. refl), (λ e. let q = ap told e in omega arith))
