-- A run adds steps, and takes none away.
-- Assumes nothing.
use mathlib.Core.Bool.{Bool, true, false, cond, ◌&&◌, ◌||◌}
use mathlib.Core.List.{List, [], ◌∷◌}
use Prim.Native.Nat.{ℕ, zero, suc}
use lib.Dec.{eqb}
use Rattle.tree.specs.Tree.{Node, Fields, Piece, Items}
use Rattle.tree.specs.Tree.Node.{node}
use Rattle.tree.specs.Tree.Fields.{done, absent, field}
use Rattle.tree.specs.Tree.Piece.{one, list, text, byte, mark, number}
use Rattle.tree.specs.Tree.Items.{none, hole, item}
use Rattle.lowering.specs.Parts.{nothing, node_at_of}
use Rattle.overlay.specs.Objects.{Key, Value, Props, put, overlay, owns, keys_of, pick, filter}
use Rattle.overlay.specs.Objects.Key.{name}
use Rattle.overlay.specs.Objects.Value.{outer, inner}
use Rattle.overlay.specs.Objects.Props.{empty, entry}
use Rattle.overlay.specs.Run.{Step, History, Reply, Outside, Out, Argument, then, ask, made, put_entry, pour, create, define_s, define_all, take, take_all_of, lacks_symbol, take_listed, is_blank, copy, copy_s, at_odd, at_even, spreads, opaque, flags, is_computed, is_written, spelled, makes, calls_s, keyed, defined, run, lay, lay_all, run_all, lay_at_of, lay_in, args_at, args_in, run_at, run_in}
use Rattle.overlay.specs.Run.Argument.{passed}
use Rattle.overlay.specs.Run.Step.{evaluates, computes, names, converts, lists, reads}
use Rattle.overlay.specs.Run.Reply.{gives, throws}
use Rattle.overlay.specs.Run.Out.{ok, threw, beyond, stuck}
use Rattle.overlay.specs.Run.Entry.{pair}
use Rattle.overlay.specs.Law.{history_of, Later, Growing}
use Rattle.overlay.specs.Law.Later.{now, next}

record From {A : Type 0} (h : History) (r : Out A) : Type 0 where
  is : Later h (history_of r)

later_trans : {f g h : History} → Later f g → Later g h → Later f h
later_trans p now = p
later_trans p (next s q) = next s (later_trans p q)

from_then : {A B : Type 0} (h : History) (r : Out A) (f : History → A → Out B) → From h r → ((g : History) (a : A) → From g (f g a)) → From h (then r f)
from_then h (ok g a) f p q = record { is = later_trans p.is (q g a).is }
from_then h (threw g v) f p q = record { is = p.is }
from_then h (beyond g n) f p q = record { is = p.is }
from_then h (stuck g) f p q = record { is = p.is }

from_cond : {A : Type 0} (h : History) (b : Bool) (r s : Out A) → From h r → From h s → From h (cond b r s)
from_cond h true r s p q = p
from_cond h false r s p q = q

from_ask : {A : Type 0} (s : Step) (r : Reply A) (h : History) → From h (ask s r h)
from_ask s (gives a) h = record { is = next s now }
from_ask s (throws v) h = record { is = next s now }

from_ok : {A : Type 0} (h : History) (a : A) → From h (ok h a)
from_ok h a = record { is = now }

from_threw : {A : Type 0} (h : History) (v : ℕ) → From {A = A} h (threw h v)
from_threw h v = record { is = now }

from_stuck : {A : Type 0} (h : History) → From {A = A} h (stuck h)
from_stuck h = record { is = now }

from_beyond : {A : Type 0} (h : History) (n : ℕ) → From {A = A} h (beyond h n)
from_beyond h n = record { is = now }

from_made : (h : History) (r : Out Props) → From h r → From h (made r)
from_made h r p = from_then h r (λ h o. ok h (inner o)) p (λ h o. from_ok h (inner o))

-- one step more, and then r
from_next : {A : Type 0} (s : Step) (h : History) (r : Out A) → From (s ∷ h) r → From h r
from_next s h r p = record { is = later_trans (next s now) p.is }

module _ (W : Outside) where
  abbrev Adds : (Key → Value → Props → History → Out Props) → Type 0
  Adds define = (k : Key) (v : Value) (o : Props) (h : History) → From h (define k v o h)

  from_define : Adds (define_s W)
  from_define k v o h = from_cond h (W.meddled h && (owns k o || W.inherits h k)) _ _ (from_threw h W.type_error) (from_ok h (put k v o))

  from_pour : (define : Key → Value → Props → History → Out Props) → Adds define → (p q o : Props) (h : History) → From h (pour W define p q o h)
  from_pour define d p empty o h = from_ok h o
  from_pour define d p (entry k v q) o h =
      from_next (reads (inner p) k) h _
      (from_then (reads (inner p) k ∷ h) (define k v o (reads (inner p) k ∷ h)) (λ h o. pour W define p q o h) (d k v o (reads (inner p) k ∷ h)) (λ h o. from_pour define d p q o h))

  from_take : (n : ℕ) (ks : List Key) (o : Props) (h : History) → From h (take W n ks o h)
  from_take n [] o h = from_ok h o
  from_take n (k ∷ ks) o h =
      from_cond h (W.shown h n k) _ _
      (from_then h (ask (reads (outer n) k) (W.value h (reads (outer n) k)) h) (λ h v. take W n ks (put k (outer v) o) h) (from_ask (reads (outer n) k) (W.value h (reads (outer n) k)) h) (λ h v. from_take n ks (put k (outer v) o) h))
      (from_take n ks o h)

  from_take_all : (n : ℕ) (ks : List Key) (o : Props) (h : History) → From h (take_all_of W n ks o h)
  from_take_all n [] o h = from_ok h o
  from_take_all n (k ∷ ks) o h =
      from_then h (ask (reads (outer n) k) (W.value h (reads (outer n) k)) h) (λ h v. then (define_s W k (outer v) o h) (λ h o. take_all_of W n ks o h))
      (from_ask (reads (outer n) k) (W.value h (reads (outer n) k)) h)
      (λ h v. from_then h (define_s W k (outer v) o h) (λ h o. take_all_of W n ks o h) (from_define k (outer v) o h) (λ h o. from_take_all n ks o h))

  from_copy : (b : Bool) (v : Value) (o : Props) (h : History) → From h (copy W b v o h)
  unfolding copy
  from_copy b (inner p) o h =
      from_cond h b _ _ (from_ok h o) (from_next (lists (inner p)) h _ (from_pour (create W) (λ k v o h. from_ok h (put k v o)) p p o (lists (inner p) ∷ h)))
  from_copy b (outer n) o h =
      from_cond h (W.tame n) _ _
      (from_cond h (W.null n) _ _ (from_ok h o) (from_then h (ask (lists (outer n)) (W.keys h n) h) (λ h ks. take W n ks o h) (from_ask (lists (outer n)) (W.keys h n) h) (λ h ks. from_take n ks o h)))
      (from_beyond h n)

  from_listed : (n : ℕ) (ks : List Key) (o : Props) (h : History) → From h (take_listed W n ks o h)
  from_listed n ks o h =
      from_cond h (lacks_symbol W h n ks) _ _ (from_threw h W.type_error) (from_take_all n (W.gathers h (filter (λ k. W.shown h n k) ks)) o h)

  from_copy_s : (b : Bool) (v : Value) (o : Props) (h : History) → From h (copy_s W b v o h)
  unfolding copy_s
  from_copy_s b (inner p) o h =
      let h' = lists (inner p) ∷ h in
      from_cond h b _ _ (from_ok h o)
      (from_next (lists (inner p)) h _ (from_pour (define_s W) from_define p (pick (outer W.undefined) (W.gathers h' (keys_of p)) p) o h'))
  from_copy_s b (outer n) o h =
      from_cond h (W.tame n) _ _
      (from_cond h (W.loose n) _ _ (from_ok h o)
      (from_then h (ask (lists (outer n)) (W.keys h n) h) (λ h ks. take_listed W n ks o h) (from_ask (lists (outer n)) (W.keys h n) h) (λ h ks. from_listed n ks o h)))
      (from_beyond h n)

  from_define_all : (p o : Props) (h : History) → From h (define_all W p o h)
  from_define_all empty o h = from_ok h o
  from_define_all (entry k v p) o h = from_cond h (W.meddled h) _ _ (from_threw h W.type_error) (from_ok h (overlay (entry k v p) o))

  mutual
    from_odd : (vs : List Argument) (o : Props) (h : History) → From h (at_odd W vs o h)
    from_odd [] o h = from_ok h o
    from_odd (passed b v ∷ vs) o h = from_then h (copy_s W b v o h) (λ h o. at_even W vs o h) (from_copy_s b v o h) (λ h o. from_even vs o h)

    from_even : (vs : List Argument) (o : Props) (h : History) → From h (at_even W vs o h)
    from_even [] o h = from_ok h o
    from_even (passed b (outer n) ∷ vs) o h = from_stuck h
    from_even (passed b (inner p) ∷ vs) o h = from_then h (define_all W p o h) (λ h o. at_odd W vs o h) (from_define_all p o h) (λ h o. from_odd vs o h)

  from_spreads : (vs : List Argument) (h : History) → From h (spreads W vs h)
  from_spreads [] h = from_stuck h
  from_spreads (passed b (outer n) ∷ vs) h = from_stuck h
  from_spreads (passed b (inner o) ∷ vs) h = from_odd vs o h

  from_keyed : (p : Node) (h : History) → From h (keyed W p h)
  unfolding keyed
  from_keyed p h =
      let n = node_at_of 0 p in
      from_cond h (is_computed p) _ _
      (from_then h (ask (computes n) (W.value h (computes n)) h) (λ h v. ask (converts v) (W.key h v) h) (from_ask (computes n) (W.value h (computes n)) h) (λ h v. from_ask (converts v) (W.key h v) h))
      (from_cond h (is_written n) _ _ (from_ok h (name (spelled n))) (from_stuck h))

  from_defined : (p : Node) (r : (Node → Step) → History → Out Value) (h : History) → ((how : Node → Step) (h : History) → From h (r how h)) → From h (defined W p r h)
  unfolding defined
  from_defined p r h q =
      from_cond h (makes p) _ _
      (from_then h (keyed W p h) (λ h key. then (r (λ n. names (flags p) key n) h) (λ h v. ok h (pair key v))) (from_keyed p h)
      (λ h key. from_then h (r (λ n. names (flags p) key n) h) (λ h v. ok h (pair key v)) (q (λ n. names (flags p) key n) h) (λ h v. from_ok h (pair key v))))
      (from_stuck h)

  from_opaque : (how : Node → Step) (n : Node) (h : History) → From h (opaque W how n h)
  from_opaque how n h = from_then h (ask (how n) (W.value h (how n)) h) (λ h v. ok h (outer v)) (from_ask (how n) (W.value h (how n)) h) (λ h v. from_ok h (outer v))

  mutual
    unfolding run

    from_run : (n : Node) (how : Node → Step) (h : History) → From h (run W how n h)
    from_run (node at k fs) how h =
        from_cond h (eqb k 24) _ _
        (from_made h (lay_at_of W fs 0 empty h) (from_lay_at fs 0 empty h))
        (from_cond h (calls_s (node at k fs)) _ _
        (from_made h (then (args_at W fs 1 h) (λ h vs. spreads W vs h)) (from_then h (args_at W fs 1 h) (λ h vs. spreads W vs h) (from_args fs 1 h) (λ h vs. from_spreads vs h)))
        (from_opaque how (node at k fs) h))

    from_lay : (p : Node) (o : Props) (h : History) → From h (lay W p o h)
    from_lay (node at k fs) o h =
        from_cond h (eqb k 26) _ _
        (from_then h (run_at W (λ n. evaluates n) fs 0 h) (λ h v. copy W (is_blank (node_at_of 0 (node at k fs))) v o h) (from_at fs 0 (λ n. evaluates n) h) (λ h v. from_copy (is_blank (node_at_of 0 (node at k fs))) v o h))
        (from_then h (defined W (node at k fs) (λ how h. run_at W how fs 1 h) h) (λ h e. ok h (put_entry e o)) (from_defined (node at k fs) (λ how h. run_at W how fs 1 h) h (λ how h. from_at fs 1 how h)) (λ h e. from_ok h (put_entry e o)))

    from_all : (ps : Items) (o : Props) (h : History) → From h (lay_all W ps o h)
    from_all none o h = from_ok h o
    from_all (hole ps) o h = from_all ps o h
    from_all (item p ps) o h = from_then h (lay W p o h) (λ h o. lay_all W ps o h) (from_lay p o h) (λ h o. from_all ps o h)

    from_run_all : (ns : Items) (h : History) → From h (run_all W ns h)
    from_run_all none h = from_ok h []
    from_run_all (hole ns) h = from_run_all ns h
    from_run_all (item n ns) h =
        from_then h (run W (λ n. evaluates n) n h) (λ h v. then (run_all W ns h) (λ h vs. ok h (passed (is_blank n) v ∷ vs))) (from_run n (λ n. evaluates n) h)
        (λ h v. from_then h (run_all W ns h) (λ h vs. ok h (passed (is_blank n) v ∷ vs)) (from_run_all ns h) (λ h vs. from_ok h (passed (is_blank n) v ∷ vs)))

    from_lay_at : (fs : Fields) (i : ℕ) (o : Props) (h : History) → From h (lay_at_of W fs i o h)
    from_lay_at done i o h = from_ok h o
    from_lay_at (absent fs) zero o h = from_ok h o
    from_lay_at (absent fs) (suc i) o h = from_lay_at fs i o h
    from_lay_at (field p fs) zero o h = from_lay_in p o h
    from_lay_at (field p fs) (suc i) o h = from_lay_at fs i o h

    from_lay_in : (p : Piece) (o : Props) (h : History) → From h (lay_in W p o h)
    from_lay_in (one n) o h = from_ok h o
    from_lay_in (list ns) o h = from_all ns o h
    from_lay_in (text s) o h = from_ok h o
    from_lay_in (byte b) o h = from_ok h o
    from_lay_in (mark b) o h = from_ok h o
    from_lay_in (number b) o h = from_ok h o

    from_args : (fs : Fields) (i : ℕ) (h : History) → From h (args_at W fs i h)
    from_args done i h = from_ok h []
    from_args (absent fs) zero h = from_ok h []
    from_args (absent fs) (suc i) h = from_args fs i h
    from_args (field p fs) zero h = from_args_in p h
    from_args (field p fs) (suc i) h = from_args fs i h

    from_args_in : (p : Piece) (h : History) → From h (args_in W p h)
    from_args_in (one n) h = from_ok h []
    from_args_in (list ns) h = from_run_all ns h
    from_args_in (text s) h = from_ok h []
    from_args_in (byte b) h = from_ok h []
    from_args_in (mark b) h = from_ok h []
    from_args_in (number b) h = from_ok h []

    from_at : (fs : Fields) (i : ℕ) (how : Node → Step) (h : History) → From h (run_at W how fs i h)
    from_at done i how h = from_opaque how nothing h
    from_at (absent fs) zero how h = from_opaque how nothing h
    from_at (absent fs) (suc i) how h = from_at fs i how h
    from_at (field p fs) zero how h = from_in p how h
    from_at (field p fs) (suc i) how h = from_at fs i how h

    from_in : (p : Piece) (how : Node → Step) (h : History) → From h (run_in W how p h)
    from_in (one n) how h = from_run n how h
    from_in (list ns) how h = from_opaque how nothing h
    from_in (text s) how h = from_opaque how nothing h
    from_in (byte b) how h = from_opaque how nothing h
    from_in (mark b) how h = from_opaque how nothing h
    from_in (number b) how h = from_opaque how nothing h

pub growing : Growing
growing W how n h = (from_run W n how h).is
