-- No plain literal is stuck: the law does not hold for want of meaning.
-- Assumes nothing.
use mathlib.Core.Path.{◌≡◌, refl}
use mathlib.Core.Bool.{Bool, true, false, cond}
use mathlib.Core.List.{List, [], ◌∷◌}
use Prim.Native.Nat.{ℕ}
use lib.Dec.{eqb}
use Rattle.tree.specs.Tree.{Node, Items}
use Rattle.tree.specs.Tree.Node.{node}
use Rattle.lowering.specs.Parts.{is, piece_in, node_at_of}
use Rattle.overlay.specs.Objects.{Key, Value, Props, put}
use Rattle.overlay.specs.Objects.Value.{outer, inner}
use Rattle.overlay.specs.Objects.Props.{empty, entry}
use Rattle.overlay.specs.Run.{Step, History, Reply, Outside, Out, then, ask, put_entry, pour, create, take, is_blank, copy, flags, is_computed, is_written, makes, calls_s, keyed, defined, run, lay, lay_all}
use Rattle.overlay.specs.Run.Step.{evaluates, computes, names, converts, lists, reads}
use Rattle.overlay.specs.Run.Reply.{gives, throws}
use Rattle.overlay.specs.Run.Out.{ok, threw, beyond, stuck}
use Rattle.overlay.specs.Run.Entry.{pair}
use Rattle.overlay.specs.Plain.{free, is_object, is_foreign, bare, fine_key, given}
use Rattle.overlay.specs.Law.{Moves, Described}
use Rattle.overlay.proofs.Free.{free_here, free_node}
use Rattle.overlay.proofs.Plainly.{Opaque, Plain, PlainParts, PlainPart, no_part, next_part, spread, property, property_of, plain_rule}
use Rattle.lowering.proofs.Cases.{by_test, or_left, or_right, and_none, and_right}

then_moves : {A B : Type 0} (r : Out A) (f : History → A → Out B) → Moves r → ((h : History) (a : A) → Moves (f h a)) → Moves (then r f)
then_moves (ok h a) f m q = q h a
then_moves (threw h v) f m q = tt
then_moves (beyond h n) f m q = tt
then_moves (stuck h) f m q = m

cond_moves : {A : Type 0} (b : Bool) (r s : Out A) → Moves r → Moves s → Moves (cond b r s)
cond_moves true r s p q = p
cond_moves false r s p q = q

ask_moves : {A : Type 0} (s : Step) (r : Reply A) (h : History) → Moves (ask s r h)
ask_moves s (gives a) h = tt
ask_moves s (throws v) h = tt

-- ---- an expression of an accepted tree is no call of S

not_helper : (n : Node) → is_foreign n ≡ false → is 21 n ≡ false
unfolding is
not_helper (node at k fs) e = or_left (eqb k 21) _ (or_right (eqb k 20) _ e)

no_call : (n : Node) → free is_foreign n ≡ true → calls_s n ≡ false
unfolding calls_s is
no_call n g =
    let e : is 21 (node_at_of 0 n) ≡ false = not_helper (node_at_of 0 n) (free_here is_foreign (node_at_of 0 n) (free_node is_foreign refl 0 n g)) in
    and_none (is 29 n) _ (rw e refl)

module _ (W : Outside) where
  pour_moves : (p q o : Props) (h : History) → Moves (pour W (create W) p q o h)
  pour_moves p empty o h = tt
  pour_moves p (entry k v q) o h = pour_moves p q (put k v o) (reads (inner p) k ∷ h)

  take_moves : (n : ℕ) (ks : List Key) (o : Props) (h : History) → Moves (take W n ks o h)
  take_moves n [] o h = tt
  take_moves n (k ∷ ks) o h =
      cond_moves (W.shown h n k) _ _
      (then_moves (ask (reads (outer n) k) (W.value h (reads (outer n) k)) h) (λ h v. take W n ks (put k (outer v) o) h) (ask_moves (reads (outer n) k) (W.value h (reads (outer n) k)) h) (λ h v. take_moves n ks (put k (outer v) o) h))
      (take_moves n ks o h)

  copy_moves : (b : Bool) (v : Value) (o : Props) (h : History) → Moves (copy W b v o h)
  unfolding copy
  copy_moves b (inner p) o h = cond_moves b _ _ tt (pour_moves p p o (lists (inner p) ∷ h))
  copy_moves b (outer n) o h =
      cond_moves (W.tame n) _ _
      (cond_moves (W.null n) _ _ tt (then_moves (ask (lists (outer n)) (W.keys h n) h) (λ h ks. take W n ks o h) (ask_moves (lists (outer n)) (W.keys h n) h) (λ h ks. take_moves n ks o h))) tt

  keyed_moves : (p : Node) (h : History) → fine_key p ≡ true → Moves (keyed W p h)
  unfolding keyed fine_key
  keyed_moves p h e =
      let n = node_at_of 0 p in
      by_test (is_computed p)
      (λ q. rw q (then_moves (ask (computes n) (W.value h (computes n)) h) (λ h v. ask (converts v) (W.key h v) h) (ask_moves (computes n) (W.value h (computes n)) h) (λ h v. ask_moves (converts v) (W.key h v) h)))
      (λ q. let w : is_written n ≡ true = rw q at (and_right (bare n) _ e) in rw (q, w) tt)

  defined_moves : (p : Node) (r : (Node → Step) → History → Out Value) (h : History) → makes p ≡ true → fine_key p ≡ true
      → ((how : Node → Step) (h : History) → Moves (r how h)) → Moves (defined W p r h)
  unfolding defined
  defined_moves p r h m e q =
      rw m (then_moves (keyed W p h) (λ h key. then (r (λ n. names (flags p) key n) h) (λ h v. ok h (pair key v))) (keyed_moves p h e)
      (λ h key. then_moves (r (λ n. names (flags p) key n) h) (λ h v. ok h (pair key v)) (q (λ n. names (flags p) key n) h) (λ h v. tt)))

  opaque_moves : (how : Node → Step) (n : Node) (h : History) → Opaque n → Moves (run W how n h)
  unfolding run is
  opaque_moves how (node at k fs) h o =
      rw (or_left (eqb k 24) _ (free_here is_object (node at k fs) o.without), no_call (node at k fs) o.accepted)
      (then_moves (ask (how (node at k fs)) (W.value h (how (node at k fs))) h) (λ h v. ok h (outer v)) (ask_moves (how (node at k fs)) (W.value h (how (node at k fs))) h) (λ h v. tt))

  mutual
    unfolding run node_at_of piece_in

    run_moves : {n : Node} → Plain n → (how : Node → Step) (h : History) → Moves (run W how n h)
    run_moves (Plain.opaque {n = n} o) how h = opaque_moves how n h o
    run_moves (Plain.literal {ps = ps} r) how h = then_moves (lay_all W ps empty h) (λ h o. ok h (inner o)) (parts_move r empty h) (λ h o. tt)

    parts_move : {ps : Items} → PlainParts ps → (o : Props) (h : History) → Moves (lay_all W ps o h)
    parts_move no_part o h = tt
    parts_move (next_part {p = p} {ps = ps} r rs) o h = then_moves (lay W p o h) (λ h o. lay_all W ps o h) (part_moves r o h) (λ h o. parts_move rs o h)

    part_moves : {p : Node} → PlainPart p → (o : Props) (h : History) → Moves (lay W p o h)
    part_moves (spread {n = n} r) o h = then_moves (run W (λ n. evaluates n) n h) (λ h v. copy W (is_blank n) v o h) (run_moves r (λ n. evaluates n) h) (λ h v. copy_moves (is_blank n) v o h)
    part_moves (property {at = at} {k = k} {v = v} {f = f} m y q r) o h =
        then_moves (defined W (property_of at k v f) (λ how h. run W how v h) h) (λ h e. ok h (put_entry e o))
        (defined_moves (property_of at k v f) (λ how h. run W how v h) h m y (λ how h. run_moves r how h)) (λ h e. tt)

pub described : Described
unfolding given
described W how n h g e = run_moves W (plain_rule n e g) how h
