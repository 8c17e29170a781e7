-- A literal as the rule leaves it does what its properties do in turn.
-- Assumes nothing.
use mathlib.Core.Path.{◌≡◌, refl, sym, ap, ◌∙◌, fun_ext}
use mathlib.Core.Bool.{Bool, true, false, cond, not}
use mathlib.Core.List.{List, [], ◌∷◌, ◌++◌}
use Prim.Native.Nat.{ℕ, zero, suc}
use Rattle.tree.specs.Tree.{Node, Fields, Items}
use Rattle.tree.specs.Tree.Node.{node}
use Rattle.tree.specs.Tree.Fields.{done, absent, field}
use Rattle.tree.specs.Tree.Piece.{one, list, text, byte, mark, number}
use Rattle.tree.specs.Tree.Items.{none, hole, item}
use Rattle.lowering.specs.Parts.{is, piece_in, as_node, as_items_of, node_at_of, items_at_of, number_at, is_empty, only, ◌+++◌}
use Rattle.lowering.specs.Made.{S, object}
use Rattle.lowering.specs.Literals.{opened, closed, scan}
use Rattle.lowering.specs.Literals.Call.{no_call, call}
use Rattle.overlay.specs.Objects.{Key, Value, Props, put, overlay, keys_of, pick, is_name_of, filter, names_first}
use Rattle.overlay.specs.Objects.Value.{outer, inner}
use Rattle.overlay.specs.Objects.Props.{empty, entry}
use Rattle.overlay.specs.Run.{Step, History, Reply, Outside, Out, Entry, then, ask, made, put_entry, pour, create, define_s, define_all, take, take_all_of, lacks_symbol, take_listed, is_blank, copy, copy_s, at_odd, spreads, calls_s, defined, run, lay, lay_all, run_all, lay_at_of, run_at}
use Rattle.overlay.specs.Run.Step.{evaluates, lists, reads}
use Rattle.overlay.specs.Run.Reply.{gives, throws}
use Rattle.overlay.specs.Run.Out.{ok, threw, beyond, stuck}
use Rattle.overlay.specs.Run.Argument.{passed}
use Rattle.overlay.specs.Run.Entry.{pair}
use Rattle.overlay.specs.Law.{Tame, Fair}
use Rattle.overlay.proofs.LaidOn.{Canon, canon_put, pick_names, overlay_put}
use Rattle.overlay.proofs.Ordered.{Holds, Good, run_good}
use Rattle.lowering.proofs.Cases.{by_test}
use Rattle.lowering.proofs.Clauses.{scan_spread, scan_other}

-- ---- outcomes

pub then_ok : {A : Type 0} (r : Out A) → then r (λ h a. ok h a) ≡ r
then_ok (ok h a) = refl
then_ok (threw h v) = refl
then_ok (beyond h n) = refl
then_ok (stuck h) = refl

pub then_then : {A B C : Type 0} (r : Out A) (f : History → A → Out B) (g : History → B → Out C) → then (then r f) g ≡ then r (λ h a. then (f h a) g)
then_then (ok h a) f g = refl
then_then (threw h v) f g = refl
then_then (beyond h n) f g = refl
then_then (stuck h) f g = refl

pub then_each : {A B : Type 0} (r : Out A) {f g : History → A → Out B} → ((h : History) (a : A) → f h a ≡ g h a) → then r f ≡ then r g
then_each (ok h a) e = e h a
then_each (threw h v) e = refl
then_each (beyond h n) e = refl
then_each (stuck h) e = refl

-- what holds of the result may be used
then_good : {A B : Type 0} (P : A → Type 0) (r : Out A) {f g : History → A → Out B} → Holds P r → ((h : History) (a : A) → P a → f h a ≡ g h a) → then r f ≡ then r g
then_good P (ok h a) p e = e h a p
then_good P (threw h v) p e = refl
then_good P (beyond h n) p e = refl
then_good P (stuck h) p e = refl

-- ---- both copies of a tame object

filter_filter : (f g : Key → Bool) (ks : List Key) → filter f (filter g ks) ≡ filter g (filter f ks)
filter_filter f g [] = refl
filter_filter f g (k ∷ ks) =
    by_test (f k)
    (λ p. by_test (g k) (λ q. simp (p, q, filter_filter f g ks)) (λ q. simp (p, q, filter_filter f g ks)))
    (λ p. by_test (g k) (λ q. simp (p, q, filter_filter f g ks)) (λ q. simp (p, q, filter_filter f g ks)))

filter_append : (f : Key → Bool) (ks ls : List Key) → filter f (ks ++ ls) ≡ filter f ks ++ filter f ls
filter_append f [] ls = refl
filter_append f (k ∷ ks) ls = by_test (f k) (λ p. simp (p, filter_append f ks ls)) (λ p. simp (p, filter_append f ks ls))

names_filter : (f : Key → Bool) (ks : List Key) → names_first ks ≡ ks → names_first (filter f ks) ≡ filter f ks
names_filter f ks e =
    ap (λ (l : List Key). l ++ filter (λ k. not (is_name_of k)) (filter f ks)) (filter_filter is_name_of f ks)
    ∙ ap (λ (l : List Key). filter f (filter is_name_of ks) ++ l) (filter_filter (λ k. not (is_name_of k)) f ks)
    ∙ sym (filter_append f (filter is_name_of ks) (filter (λ k. not (is_name_of k)) ks))
    ∙ ap (λ (l : List Key). filter f l) e

-- an object that lacks nothing lacks no symbol that it lists
pub none_lacked : (W : Outside) (h : History) (n : ℕ) → ((k : Key) → W.lacks h n k ≡ false) → (ks : List Key) → lacks_symbol W h n ks ≡ false
none_lacked W h n e [] = refl
none_lacked W h n e (k ∷ ks) = rw (e k, none_lacked W h n e ks) (by_test (not (is_name_of k)) (λ t. rw t refl) (λ t. rw t refl))

module _ (W : Outside) where
  -- ---- what is run, one equation each

  abbrev ev : Node → Step
  ev n = evaluates n

  pub run_at_lem : (how : Node → Step) (fs : Fields) (i : ℕ) (h : History) → run_at W how fs i h ≡ run W how (as_node (piece_in fs i)) h
  unfolding run calls_s piece_in is
  run_at_lem how done i h = refl
  run_at_lem how (absent fs) zero h = refl
  run_at_lem how (absent fs) (suc i) h = run_at_lem how fs i h
  run_at_lem how (field (one n) fs) zero h = refl
  run_at_lem how (field (list is) fs) zero h = refl
  run_at_lem how (field (text bs) fs) zero h = refl
  run_at_lem how (field (byte b) fs) zero h = refl
  run_at_lem how (field (mark b) fs) zero h = refl
  run_at_lem how (field (number b) fs) zero h = refl
  run_at_lem how (field p fs) (suc i) h = run_at_lem how fs i h

  pub lay_at : (fs : Fields) (i : ℕ) (o : Props) (h : History) → lay_at_of W fs i o h ≡ lay_all W (as_items_of (piece_in fs i)) o h
  unfolding run piece_in
  lay_at done i o h = refl
  lay_at (absent fs) zero o h = refl
  lay_at (absent fs) (suc i) o h = lay_at fs i o h
  lay_at (field (one n) fs) zero o h = refl
  lay_at (field (list is) fs) zero o h = refl
  lay_at (field (text bs) fs) zero o h = refl
  lay_at (field (byte b) fs) zero o h = refl
  lay_at (field (mark b) fs) zero o h = refl
  lay_at (field (number b) fs) zero o h = refl
  lay_at (field p fs) (suc i) o h = lay_at fs i o h

  -- a literal does what its properties do
  pub run_literal : (how : Node → Step) (n : Node) (h : History) → is 24 n ≡ true → run W how n h ≡ made (lay_all W (items_at_of 0 n) empty h)
  unfolding run is items_at_of
  run_literal how (node at k fs) h e = simp e (ap made (lay_at fs 0 empty h))

  pub run_object : (how : Node → Step) (ps : Items) (h : History) → run W how (object ps) h ≡ made (lay_all W ps empty h)
  unfolding run
  run_object how ps h = refl

  abbrev pub run_s : Items → History → Out Props
  run_s xs h = then (run_all W xs h) (λ h vs. spreads W vs h)

  run_S : (how : Node → Step) (xs : Items) (h : History) → run W how (S xs) h ≡ made (run_s xs h)
  unfolding run calls_s is node_at_of number_at piece_in
  run_S how xs h = refl

  -- the entry that a property makes, if it is no spread
  pub define : Node → History → Out Entry
  define (node at k fs) h = defined W (node at k fs) (λ how h. run_at W how fs 1 h) h

  pub lay_spread : (p : Node) (o : Props) (h : History) → is 26 p ≡ true → lay W p o h ≡ then (run W ev (node_at_of 0 p) h) (λ h v. copy W (is_blank (node_at_of 0 p)) v o h)
  unfolding run is node_at_of
  lay_spread (node at k fs) o h e = simp e (ap (λ (r : Out Value). then r (λ h v. copy W (is_blank (node_at_of 0 (node at k fs))) v o h)) (run_at_lem ev fs 0 h))

  pub lay_other : (p : Node) (o : Props) (h : History) → is 26 p ≡ false → lay W p o h ≡ then (define p h) (λ h e. ok h (put_entry e o))
  unfolding run define is
  lay_other (node at k fs) o h e = simp e

  pub lay_append : (ps qs : Items) (o : Props) (h : History) → lay_all W (ps +++ qs) o h ≡ then (lay_all W ps o h) (λ h o. lay_all W qs o h)
  unfolding run ◌+++◌
  lay_append none qs o h = refl
  lay_append (hole ps) qs o h = lay_append ps qs o h
  lay_append (item p ps) qs o h =
      then_each (lay W p o h) (λ h o. lay_append ps qs o h) ∙ sym (then_then (lay W p o h) (λ h o. lay_all W ps o h) (λ h o. lay_all W qs o h))

  lay_snoc : (ps : Items) (p : Node) (o : Props) (h : History) → lay_all W (ps +++ only p) o h ≡ then (lay_all W ps o h) (λ h o. lay W p o h)
  unfolding run
  lay_snoc ps p o h = lay_append ps (only p) o h ∙ then_each (lay_all W ps o h) (λ h o. then_ok (lay W p o h))

  module _ (fair : Fair W) where
    -- ---- S copies as ECMA-262 does

    define_same : (k : Key) (v : Value) (o : Props) (h : History) → define_s W k v o h ≡ ok h (put k v o)
    define_same k v o h = rw (fair.unmeddled h) refl

    pour_same : (p q o : Props) (h : History) → pour W (define_s W) p q o h ≡ pour W (create W) p q o h
    pour_same p empty o h = refl
    pour_same p (entry k v q) o h =
        ap (λ (r : Out Props). then r (λ h o. pour W (define_s W) p q o h)) (define_same k v o (reads (inner p) k ∷ h))
        ∙ pour_same p q (put k v o) (reads (inner p) k ∷ h)

    all_same : (p o : Props) (h : History) → define_all W p o h ≡ ok h (overlay p o)
    all_same empty o h = refl
    all_same (entry k v p) o h = rw (fair.unmeddled h) refl

    take_steady : (n : ℕ) → Tame W n → (ks : List Key) (o : Props) (h : History) → take_all_of W n (filter (λ k. W.shown h n k) ks) o h ≡ take W n ks o h
    take_steady n t [] o h = refl
    take_steady n t (k ∷ ks) o h =
        by_test (W.shown h n k)
        (λ e. ap (λ (b : Bool). take_all_of W n (cond b (k ∷ filter (λ k. W.shown h n k) ks) (filter (λ k. W.shown h n k) ks)) o h) e
        ∙ taken (W.value h (reads (outer n) k)) (λ v. take_steady n t ks (put k (outer v) o) (reads (outer n) k ∷ h))
        ∙ ap (λ (b : Bool). cond b (then (ask (reads (outer n) k) (W.value h (reads (outer n) k)) h) (λ h v. take W n ks (put k (outer v) o) h)) (take W n ks o h)) (sym e))
        (λ e. ap (λ (b : Bool). take_all_of W n (cond b (k ∷ filter (λ k. W.shown h n k) ks) (filter (λ k. W.shown h n k) ks)) o h) e
        ∙ take_steady n t ks o h
        ∙ ap (λ (b : Bool). cond b (then (ask (reads (outer n) k) (W.value h (reads (outer n) k)) h) (λ h v. take W n ks (put k (outer v) o) h)) (take W n ks o h)) (sym e))
      where
        taken : (r : Reply ℕ)
            → ((v : ℕ) → take_all_of W n (filter (λ l. W.shown (reads (outer n) k ∷ h) n l) ks) (put k (outer v) o) (reads (outer n) k ∷ h) ≡ take W n ks (put k (outer v) o) (reads (outer n) k ∷ h))
            → then (ask (reads (outer n) k) r h) (λ h' v. then (define_s W k (outer v) o h') (λ h' o. take_all_of W n (filter (λ l. W.shown h n l) ks) o h'))
            ≡ then (ask (reads (outer n) k) r h) (λ h' v. take W n ks (put k (outer v) o) h')
        taken (gives v) q =
            let h' : History = reads (outer n) k ∷ h in
            ap (λ (r : Out Props). then r (λ h' o. take_all_of W n (filter (λ l. W.shown h n l) ks) o h')) (define_same k (outer v) o h')
            ∙ ap (λ (f : Key → Bool). take_all_of W n (filter f ks) (put k (outer v) o) h') (fun_ext (λ l. sym (t.steady h k l))) ∙ q v
        taken (throws v) q = refl

    pub copy_same : (b : Bool) (v : Value) (o : Props) (h : History) → Good v → copy_s W b v o h ≡ copy W b v o h
    unfolding copy copy_s
    copy_same b (inner p) o h g =
        let h' : History = lists (inner p) ∷ h in
        ap (λ (r : Out Props). cond b (ok h o) r)
        (ap (λ (ks : List Key). pour W (define_s W) p (pick (outer W.undefined) ks p) o h') (fair.intact h' (keys_of p))
        ∙ ap (λ (x : Props). pour W (define_s W) p x o h') (pick_names (outer W.undefined) p g)
        ∙ pour_same p p o h')
    copy_same b (outer n) o h g = by_test (W.tame n) (λ e. simp e (alike (fair.tamed n e))) (λ e. simp e)
      where
        listed : Tame W n → (r : Reply (List Key)) → W.keys h n ≡ r
            → then (ask (lists (outer n)) r h) (λ h ks. take_listed W n ks o h) ≡ then (ask (lists (outer n)) r h) (λ h ks. take W n ks o h)
        listed t (gives ks) e =
            let h' : History = lists (outer n) ∷ h in
            ap (λ (b : Bool). cond b (threw h' W.type_error) (take_all_of W n (W.gathers h' (filter (λ k. W.shown h' n k) ks)) o h')) (t.owned h ks e)
            ∙ ap (λ (l : List Key). take_all_of W n l o h') (fair.intact h' (filter (λ k. W.shown h' n k) ks) ∙ names_filter (λ k. W.shown h' n k) ks (t.sorted h ks e))
            ∙ take_steady n t ks o h'
        listed t (throws v) e = refl

        alike : Tame W n
            → cond (W.loose n) (ok h o) (then (ask (lists (outer n)) (W.keys h n) h) (λ h ks. take_listed W n ks o h))
            ≡ cond (W.null n) (ok h o) (then (ask (lists (outer n)) (W.keys h n) h) (λ h ks. take W n ks o h))
        alike t =
            ap (λ (b : Bool). cond b (ok h o) (then (ask (lists (outer n)) (W.keys h n) h) (λ h ks. take_listed W n ks o h))) t.strict
            ∙ ap (λ (r : Out Props). cond (W.null n) (ok h o) r) (listed t (W.keys h n) refl)

    -- ---- arguments of S

    -- the first
    first_arg : (n : Node) (ns : Items) (r : Out Props) (h : History) → run W ev n h ≡ made r
        → run_s (item n ns) h ≡ then r (λ h o. then (run_all W ns h) (λ h vs. at_odd W vs o h))
    unfolding run
    first_arg n ns r h e =
        ap (λ (x : Out Value). then (then x (λ h v. then (run_all W ns h) (λ h vs. ok h (passed (is_blank n) v ∷ vs)))) (λ h vs. spreads W vs h)) e ∙ go r
      where
        go : (r : Out Props) → then (then (made r) (λ h v. then (run_all W ns h) (λ h vs. ok h (passed (is_blank n) v ∷ vs)))) (λ h vs. spreads W vs h)
            ≡ then r (λ h o. then (run_all W ns h) (λ h vs. at_odd W vs o h))
        go (ok h o) = then_then (run_all W ns h) (λ h vs. ok h (passed (is_blank n) (inner o) ∷ vs)) (λ h vs. spreads W vs h)
        go (threw h v) = refl
        go (beyond h n) = refl
        go (stuck h) = refl

    -- the last, at an odd place
    last_arg : (a : Node) (o : Props) (h : History) → then (run_all W (only a) h) (λ h vs. at_odd W vs o h) ≡ then (run W ev a h) (λ h v. copy W (is_blank a) v o h)
    unfolding run
    last_arg a o h =
        then_then (run W ev a h) (λ h v. ok h (passed (is_blank a) v ∷ [])) (λ h vs. at_odd W vs o h)
        ∙ then_good (λ v. Good v) (run W ev a h) (run_good W a ev h) (λ h v g. then_ok (copy_s W (is_blank a) v o h) ∙ copy_same (is_blank a) v o h g)

    -- properties that a literal defines: no spread, no hole
    abbrev Others : Items → Type 0
    Others none = Unit {0}
    Others (hole ps) = ⊥
    Others (item p ps) = (is 26 p ≡ false) × Others ps

    others_snoc : (ps : Items) (p : Node) → Others ps → is 26 p ≡ false → Others (ps +++ only p)
    unfolding ◌+++◌
    others_snoc none p a e = (e, tt)
    others_snoc (hole ps) p a e = a
    others_snoc (item q ps) p a e = (a.0, others_snoc ps p a.1 e)

    gathered : (ps : Items) (o t : Props) (h : History) → Others ps → Canon o
        → then (lay_all W ps o h) (λ h p. ok h (overlay p t)) ≡ lay_all W ps (overlay o t) h
    unfolding run
    gathered none o t h a c = refl
    gathered (hole ps) o t h a c = absurd a
    gathered (item p ps) o t h a c =
        ap (λ (r : Out Props). then (then r (λ h o. lay_all W ps o h)) (λ h p. ok h (overlay p t))) (lay_other p o h a.0)
        ∙ go (define p h) (λ o h c. gathered ps o t h a.1 c)
        ∙ ap (λ (r : Out Props). then r (λ h o. lay_all W ps o h)) (sym (lay_other p (overlay o t) h a.0))
      where
        go : (r : Out Entry) → ((o : Props) (h : History) → Canon o → then (lay_all W ps o h) (λ h p. ok h (overlay p t)) ≡ lay_all W ps (overlay o t) h)
            → then (then (then r (λ h e. ok h (put_entry e o))) (λ h o. lay_all W ps o h)) (λ h p. ok h (overlay p t))
            ≡ then (then r (λ h e. ok h (put_entry e (overlay o t)))) (λ h o. lay_all W ps o h)
        go (ok h (pair k v)) f = f (put k v o) h (canon_put k v o c) ∙ ap (λ (x : Props). lay_all W ps x h) (overlay_put k v o t c)
        go (threw h v) f = refl
        go (beyond h n) f = refl
        go (stuck h) f = refl

    -- `{}, {ps}` at an odd and an even place, and what follows
    defined_args : (ps ns : Items) (o : Props) (h : History) → Others ps
        → then (run_all W (item (object none) (item (object ps) ns)) h) (λ h vs. at_odd W vs o h)
        ≡ then (lay_all W ps o h) (λ h o. then (run_all W ns h) (λ h vs. at_odd W vs o h))
    unfolding run copy_s is_blank is_empty is items_at_of piece_in
    defined_args ps ns o h a =
        go (lay_all W ps empty h)
        ∙ ap (λ (r : Out Props). then r (λ h o. then (run_all W ns h) (λ h vs. at_odd W vs o h))) (gathered ps empty o h a tt)
      where
        go : (r : Out Props)
            → then (then (then (made r) (λ h v. then (run_all W ns h) (λ h vs. ok h (passed (is_blank (object ps)) v ∷ vs)))) (λ h vs. ok h (passed true (inner empty) ∷ vs))) (λ h vs. at_odd W vs o h)
            ≡ then (then r (λ h p. ok h (overlay p o))) (λ h o. then (run_all W ns h) (λ h vs. at_odd W vs o h))
        go (ok h p) =
            then_then (then (run_all W ns h) (λ h vs. ok h (passed (is_blank (object ps)) (inner p) ∷ vs))) (λ h vs. ok h (passed true (inner empty) ∷ vs)) (λ h vs. at_odd W vs o h)
            ∙ then_then (run_all W ns h) (λ h vs. ok h (passed (is_blank (object ps)) (inner p) ∷ vs)) (λ h vs. at_odd W (passed true (inner empty) ∷ vs) o h)
            ∙ then_each (run_all W ns h) (λ h vs. ap (λ (r : Out Props). then r (λ h o. at_odd W vs o h)) (all_same p o h))
        go (threw h v) = refl
        go (beyond h n) = refl
        go (stuck h) = refl

    -- ---- the calls that the rule makes

    -- one more spread on a call
    call_spread : (xs pend : Items) (p : Node) (h : History) → Others pend → is 26 p ≡ true
        → run_s (opened (call (S xs)) pend +++ only (node_at_of 0 p)) h ≡ then (run_s xs h) (λ h o. then (lay_all W pend o h) (λ h o. lay W p o h))
    unfolding run opened ◌+++◌
    call_spread xs none p h a e =
        first_arg (S xs) (only (node_at_of 0 p)) (run_s xs h) h (run_S ev xs h)
        ∙ then_each (run_s xs h) (λ h o. last_arg (node_at_of 0 p) o h ∙ sym (lay_spread p o h e))
    call_spread xs (hole qs) p h a e = absurd a
    call_spread xs (item q qs) p h a e =
        first_arg (S xs) (item (object none) (item (object (item q qs)) (only (node_at_of 0 p)))) (run_s xs h) h (run_S ev xs h)
        ∙ then_each (run_s xs h) (λ h o. defined_args (item q qs) (only (node_at_of 0 p)) o h a
        ∙ then_each (lay_all W (item q qs) o h) (λ h o. last_arg (node_at_of 0 p) o h ∙ sym (lay_spread p o h e)))

    -- the first spread
    first_spread : (pend : Items) (p : Node) (h : History) → is 26 p ≡ true
        → run_s (opened no_call pend +++ only (node_at_of 0 p)) h ≡ then (lay_all W pend empty h) (λ h o. lay W p o h)
    unfolding opened ◌+++◌
    first_spread pend p h e =
        first_arg (object pend) (only (node_at_of 0 p)) (lay_all W pend empty h) h (run_object ev pend h)
        ∙ then_each (lay_all W pend empty h) (λ h o. last_arg (node_at_of 0 p) o h ∙ sym (lay_spread p o h e))

    -- a call and the properties after it
    scan_call : (how : Node → Step) (xs pend ps : Items) (h : History) → Others pend
        → run W how (scan (call (S xs)) pend ps) h ≡ made (then (run_s xs h) (λ h o. then (lay_all W pend o h) (λ h o. lay_all W ps o h)))
    unfolding run scan closed opened
    scan_call how xs none none h a = run_S how xs h ∙ ap made (sym (then_ok (run_s xs h)))
    scan_call how xs (hole qs) none h a = absurd a
    scan_call how xs (item q qs) none h a =
        run_S how (opened (call (S xs)) (item q qs)) h
        ∙ ap made (first_arg (S xs) (item (object none) (only (object (item q qs)))) (run_s xs h) h (run_S ev xs h)
        ∙ then_each (run_s xs h) (λ h o. defined_args (item q qs) none o h a))
    scan_call how xs pend (hole ps) h a = scan_call how xs pend ps h a
    scan_call how xs pend (item p ps) h a =
        by_test (is 26 p)
        (λ e. ap (λ (n : Node). run W how n h) (scan_spread (call (S xs)) pend p ps e)
        ∙ scan_call how (opened (call (S xs)) pend +++ only (node_at_of 0 p)) none ps h tt
        ∙ ap made (ap (λ (r : Out Props). then r (λ h o. lay_all W ps o h)) (call_spread xs pend p h a e)
        ∙ then_then (run_s xs h) (λ h o. then (lay_all W pend o h) (λ h o. lay W p o h)) (λ h o. lay_all W ps o h)
        ∙ then_each (run_s xs h) (λ h o. then_then (lay_all W pend o h) (λ h o. lay W p o h) (λ h o. lay_all W ps o h))))
        (λ e. ap (λ (n : Node). run W how n h) (scan_other (call (S xs)) pend p ps e)
        ∙ scan_call how xs (pend +++ only p) ps h (others_snoc pend p a e)
        ∙ ap made (then_each (run_s xs h) (λ h o. ap (λ (r : Out Props). then r (λ h o. lay_all W ps o h)) (lay_snoc pend p o h)
        ∙ then_then (lay_all W pend o h) (λ h o. lay W p o h) (λ h o. lay_all W ps o h))))

    -- no call yet
    scan_first : (how : Node → Step) (pend ps : Items) (h : History) → Others pend
        → run W how (scan no_call pend ps) h ≡ made (then (lay_all W pend empty h) (λ h o. lay_all W ps o h))
    unfolding run scan closed
    scan_first how pend none h a = run_object how pend h ∙ ap made (sym (then_ok (lay_all W pend empty h)))
    scan_first how pend (hole ps) h a = scan_first how pend ps h a
    scan_first how pend (item p ps) h a =
        by_test (is 26 p)
        (λ e. ap (λ (n : Node). run W how n h) (scan_spread no_call pend p ps e)
        ∙ scan_call how (opened no_call pend +++ only (node_at_of 0 p)) none ps h tt
        ∙ ap made (ap (λ (r : Out Props). then r (λ h o. lay_all W ps o h)) (first_spread pend p h e)
        ∙ then_then (lay_all W pend empty h) (λ h o. lay W p o h) (λ h o. lay_all W ps o h)))
        (λ e. ap (λ (n : Node). run W how n h) (scan_other no_call pend p ps e)
        ∙ scan_first how (pend +++ only p) ps h (others_snoc pend p a e)
        ∙ ap made (ap (λ (r : Out Props). then r (λ h o. lay_all W ps o h)) (lay_snoc pend p empty h)
        ∙ then_then (lay_all W pend empty h) (λ h o. lay W p o h) (λ h o. lay_all W ps o h)))

    -- the rule's result does what the properties do
    pub run_scan : (how : Node → Step) (ps : Items) (h : History) → run W how (scan no_call none ps) h ≡ made (lay_all W ps empty h)
    unfolding run
    run_scan how ps h = scan_first how none ps h tt
