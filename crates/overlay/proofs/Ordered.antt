-- Every object that a run makes is in the order of its keys.
-- Assumes nothing.
use mathlib.Core.Bool.{Bool, true, false, cond, ◌&&◌, ◌||◌}
use mathlib.Core.List.{List, [], ◌∷◌}
use Prim.Native.Nat.{ℕ, zero, suc}
use lib.Dec.{eqb}
use Rattle.tree.specs.Tree.{Node, Fields, Piece, Items}
use Rattle.tree.specs.Tree.Node.{node}
use Rattle.tree.specs.Tree.Fields.{done, absent, field}
use Rattle.tree.specs.Tree.Piece.{one, list, text, byte, mark, number}
use Rattle.tree.specs.Tree.Items.{none, hole, item}
use Rattle.lowering.specs.Parts.{node_at_of}
use Rattle.overlay.specs.Objects.{Key, Value, Props, put, owns, keys_of, pick, filter}
use Rattle.overlay.specs.Objects.Value.{outer, inner}
use Rattle.overlay.specs.Objects.Props.{empty, entry}
use Rattle.overlay.specs.Run.{Step, History, Outside, Out, Argument, Entry, then, ask, made, put_entry, pour, create, define_s, define_all, take, take_all_of, lacks_symbol, take_listed, is_blank, copy, copy_s, at_odd, at_even, spreads, calls_s, defined, run, lay, lay_all, run_all, lay_at_of, lay_in, args_at, args_in, run_at}
use Rattle.overlay.specs.Run.Step.{evaluates, lists, reads}
use Rattle.overlay.specs.Run.Out.{ok, threw, beyond, stuck}
use Rattle.overlay.specs.Run.Argument.{passed}
use Rattle.overlay.specs.Run.Entry.{pair}
use Rattle.overlay.proofs.LaidOn.{Canon, canon_put, canon_overlay}

-- what holds of a result, if there is one
abbrev pub Holds : {A : Type 0} → (A → Type 0) → Out A → Type 0
Holds P (ok h a) = P a
Holds P (threw h v) = Unit {0}
Holds P (beyond h n) = Unit {0}
Holds P (stuck h) = Unit {0}

abbrev pub Good : Value → Type 0
Good (outer n) = Unit {0}
Good (inner p) = Canon p

abbrev AllGood : List Argument → Type 0
AllGood [] = Unit {0}
AllGood (passed b v ∷ vs) = Good v × AllGood vs

module _ {A B : Type 0} (P : A → Type 0) (Q : B → Type 0) where
  holds_then : (r : Out A) (f : History → A → Out B) → Holds P r → ((h : History) (a : A) → P a → Holds Q (f h a)) → Holds Q (then r f)
  holds_then (ok h a) f p q = q h a p
  holds_then (threw h v) f p q = tt
  holds_then (beyond h n) f p q = tt
  holds_then (stuck h) f p q = tt

module _ {A B : Type 0} (Q : B → Type 0) where
  holds_any : (r : Out A) (f : History → A → Out B) → ((h : History) (a : A) → Holds Q (f h a)) → Holds Q (then r f)
  holds_any (ok h a) f q = q h a
  holds_any (threw h v) f q = tt
  holds_any (beyond h n) f q = tt
  holds_any (stuck h) f q = tt

holds_cond : {A : Type 0} (P : A → Type 0) (b : Bool) (r s : Out A) → Holds P r → Holds P s → Holds P (cond b r s)
holds_cond P true r s p q = p
holds_cond P false r s p q = q

abbrev C : Props → Type 0
C o = Canon o

abbrev G : Value → Type 0
G v = Good v

abbrev GG : List Argument → Type 0
GG vs = AllGood vs

made_good : (r : Out Props) → Holds C r → Holds G (made r)
made_good r c = holds_then C G r (λ h o. ok h (inner o)) c (λ h o c. c)

entry_canon : (e : Entry) (o : Props) → Canon o → Canon (put_entry e o)
entry_canon (pair k v) o c = canon_put k v o c

module _ (W : Outside) where
  abbrev Defines : (Key → Value → Props → History → Out Props) → Type 0
  Defines define = (k : Key) (v : Value) (o : Props) (h : History) → Canon o → Holds C (define k v o h)

  create_canon : Defines (create W)
  create_canon k v o h c = canon_put k v o c

  define_canon : Defines (define_s W)
  define_canon k v o h c = holds_cond C (W.meddled h && (owns k o || W.inherits h k)) _ _ tt (canon_put k v o c)

  pour_canon : (define : Key → Value → Props → History → Out Props) → Defines define → (p q o : Props) (h : History) → Canon o → Holds C (pour W define p q o h)
  pour_canon define d p empty o h c = c
  pour_canon define d p (entry k v q) o h c =
      holds_then C C (define k v o (reads (inner p) k ∷ h)) (λ h o. pour W define p q o h) (d k v o (reads (inner p) k ∷ h) c) (λ h o c. pour_canon define d p q o h c)

  take_canon : (n : ℕ) (ks : List Key) (o : Props) (h : History) → Canon o → Holds C (take W n ks o h)
  take_canon n [] o h c = c
  take_canon n (k ∷ ks) o h c =
      holds_cond C (W.shown h n k) _ _
      (holds_any C (ask (reads (outer n) k) (W.value h (reads (outer n) k)) h) (λ h v. take W n ks (put k (outer v) o) h) (λ h v. take_canon n ks (put k (outer v) o) h (canon_put k (outer v) o c)))
      (take_canon n ks o h c)

  take_all_canon : (n : ℕ) (ks : List Key) (o : Props) (h : History) → Canon o → Holds C (take_all_of W n ks o h)
  take_all_canon n [] o h c = c
  take_all_canon n (k ∷ ks) o h c =
      holds_any C (ask (reads (outer n) k) (W.value h (reads (outer n) k)) h) (λ h v. then (define_s W k (outer v) o h) (λ h o. take_all_of W n ks o h))
      (λ h v. holds_then C C (define_s W k (outer v) o h) (λ h o. take_all_of W n ks o h) (define_canon k (outer v) o h c) (λ h o c. take_all_canon n ks o h c))

  copy_canon : (b : Bool) (v : Value) (o : Props) (h : History) → Canon o → Holds C (copy W b v o h)
  unfolding copy
  copy_canon b (inner p) o h c = holds_cond C b _ _ c (pour_canon (create W) create_canon p p o (lists (inner p) ∷ h) c)
  copy_canon b (outer n) o h c =
      holds_cond C (W.tame n) _ _
      (holds_cond C (W.null n) _ _ c (holds_any C (ask (lists (outer n)) (W.keys h n) h) (λ h ks. take W n ks o h) (λ h ks. take_canon n ks o h c))) tt

  copy_s_canon : (b : Bool) (v : Value) (o : Props) (h : History) → Canon o → Holds C (copy_s W b v o h)
  unfolding copy_s
  copy_s_canon b (inner p) o h c =
      let h' = lists (inner p) ∷ h in
      holds_cond C b _ _ c (pour_canon (define_s W) define_canon p (pick (outer W.undefined) (W.gathers h' (keys_of p)) p) o h' c)
  copy_s_canon b (outer n) o h c =
      holds_cond C (W.tame n) _ _
      (holds_cond C (W.loose n) _ _ c
      (holds_any C (ask (lists (outer n)) (W.keys h n) h) (λ h ks. take_listed W n ks o h)
      (λ h ks. holds_cond C (lacks_symbol W h n ks) _ _ tt (take_all_canon n (W.gathers h (filter (λ k. W.shown h n k) ks)) o h c)))) tt

  define_all_canon : (p o : Props) (h : History) → Canon o → Holds C (define_all W p o h)
  define_all_canon empty o h c = c
  define_all_canon (entry k v p) o h c = holds_cond C (W.meddled h) _ _ tt (canon_overlay (entry k v p) o c)

  mutual
    odd_canon : (vs : List Argument) (o : Props) (h : History) → Canon o → Holds C (at_odd W vs o h)
    odd_canon [] o h c = c
    odd_canon (passed b v ∷ vs) o h c = holds_then C C (copy_s W b v o h) (λ h o. at_even W vs o h) (copy_s_canon b v o h c) (λ h o c. even_canon vs o h c)

    even_canon : (vs : List Argument) (o : Props) (h : History) → Canon o → Holds C (at_even W vs o h)
    even_canon [] o h c = c
    even_canon (passed b (outer n) ∷ vs) o h c = tt
    even_canon (passed b (inner p) ∷ vs) o h c = holds_then C C (define_all W p o h) (λ h o. at_odd W vs o h) (define_all_canon p o h c) (λ h o c. odd_canon vs o h c)

  spreads_canon : (vs : List Argument) (h : History) → AllGood vs → Holds C (spreads W vs h)
  spreads_canon [] h g = tt
  spreads_canon (passed b (outer n) ∷ vs) h g = tt
  spreads_canon (passed b (inner o) ∷ vs) h g = odd_canon vs o h g.0

  mutual
    unfolding run

    pub run_good : (n : Node) (how : Node → Step) (h : History) → Holds G (run W how n h)
    run_good (node at k fs) how h =
        holds_cond G (eqb k 24) _ _
        (made_good (lay_at_of W fs 0 empty h) (at_good fs 0 empty h tt))
        (holds_cond G (calls_s (node at k fs)) _ _
        (made_good (then (args_at W fs 1 h) (λ h vs. spreads W vs h)) (holds_then GG C (args_at W fs 1 h) (λ h vs. spreads W vs h) (args_good fs 1 h) (λ h vs g. spreads_canon vs h g)))
        (holds_any G (ask (how (node at k fs)) (W.value h (how (node at k fs))) h) (λ h v. ok h (outer v)) (λ h v. tt)))

    lay_good : (p : Node) (o : Props) (h : History) → Canon o → Holds C (lay W p o h)
    lay_good (node at k fs) o h c =
        holds_cond C (eqb k 26) _ _
        (holds_any C (run_at W (λ n. evaluates n) fs 0 h) (λ h v. copy W (is_blank (node_at_of 0 (node at k fs))) v o h) (λ h v. copy_canon (is_blank (node_at_of 0 (node at k fs))) v o h c))
        (holds_any C (defined W (node at k fs) (λ how h. run_at W how fs 1 h) h) (λ h e. ok h (put_entry e o)) (λ h e. entry_canon e o c))

    all_good : (ps : Items) (o : Props) (h : History) → Canon o → Holds C (lay_all W ps o h)
    all_good none o h c = c
    all_good (hole ps) o h c = all_good ps o h c
    all_good (item p ps) o h c = holds_then C C (lay W p o h) (λ h o. lay_all W ps o h) (lay_good p o h c) (λ h o c. all_good ps o h c)

    run_all_good : (ns : Items) (h : History) → Holds GG (run_all W ns h)
    run_all_good none h = tt
    run_all_good (hole ns) h = run_all_good ns h
    run_all_good (item n ns) h =
        holds_then G GG (run W (λ n. evaluates n) n h) (λ h v. then (run_all W ns h) (λ h vs. ok h (passed (is_blank n) v ∷ vs))) (run_good n (λ n. evaluates n) h)
        (λ h v g. holds_then GG GG (run_all W ns h) (λ h vs. ok h (passed (is_blank n) v ∷ vs)) (run_all_good ns h) (λ h vs gs. (g, gs)))

    at_good : (fs : Fields) (i : ℕ) (o : Props) (h : History) → Canon o → Holds C (lay_at_of W fs i o h)
    at_good done i o h c = c
    at_good (absent fs) zero o h c = c
    at_good (absent fs) (suc i) o h c = at_good fs i o h c
    at_good (field p fs) zero o h c = in_good p o h c
    at_good (field p fs) (suc i) o h c = at_good fs i o h c

    in_good : (p : Piece) (o : Props) (h : History) → Canon o → Holds C (lay_in W p o h)
    in_good (one n) o h c = c
    in_good (list is) o h c = all_good is o h c
    in_good (text bs) o h c = c
    in_good (byte b) o h c = c
    in_good (mark b) o h c = c
    in_good (number b) o h c = c

    args_good : (fs : Fields) (i : ℕ) (h : History) → Holds GG (args_at W fs i h)
    args_good done i h = tt
    args_good (absent fs) zero h = tt
    args_good (absent fs) (suc i) h = args_good fs i h
    args_good (field p fs) zero h = args_in_good p h
    args_good (field p fs) (suc i) h = args_good fs i h

    args_in_good : (p : Piece) (h : History) → Holds GG (args_in W p h)
    args_in_good (one n) h = tt
    args_in_good (list is) h = run_all_good is h
    args_in_good (text bs) h = tt
    args_in_good (byte b) h = tt
    args_in_good (mark b) h = tt
    args_in_good (number b) h = tt
