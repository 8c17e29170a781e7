-- Running the expressions that the literal rule reads and makes, against an outside. Numbers of clauses are those of ECMA-262, 9th edition.
use Rattle.std.specs.Prelude.{ℕ, zero, suc, ◌%◌, Bool, false, cond, ◌&&◌, ◌||◌, not, List, [], ◌∷◌, eqb, leb}
use Rattle.tree.specs.Tree.{Node, Fields, Piece, Items}
use Rattle.tree.specs.Tree.Node.{node}
use Rattle.tree.specs.Tree.Fields.{done, absent, field}
use Rattle.tree.specs.Tree.Piece.{one, list, text, byte, mark, number}
use Rattle.tree.specs.Tree.Items.{none, hole, item}
use Rattle.lowering.specs.Parts.{nothing, is, node_at_of, items_at_of, text_at_of, number_at, stands, is_empty}
use Rattle.overlay.specs.Objects.{Key, Value, Props, same_text, is_name_of, put, overlay, owns, keys_of, pick, filter}
use Rattle.overlay.specs.Objects.Key.{name}
use Rattle.overlay.specs.Objects.Value.{outer, inner}
use Rattle.overlay.specs.Objects.Props.{empty, entry}

-- ---- steps, and the outside

-- what can be seen of a run (document 01, 'The plain class of demand 3': evaluations, key conversions, key listings, reads of a copied
-- object). An evaluation says what for: the name of a function and the home object of a method depend on it
pub data Step : Type 0 where
  evaluates : Node → Step  -- the argument of a spread
  computes : Node → Step  -- a computed key
  names : ℕ → Key → Node → Step  -- the value of a property: its flags and its key
  converts : ℕ → Step  -- ToPropertyKey (7.1.14) of a computed key's value
  lists : Value → Step  -- [[OwnPropertyKeys]] of a copied object
  reads : Value → Key → Step  -- Get (7.3.1) of a property of a copied object

-- the steps so far, the latest first
abbrev pub History : Type 0
History = List Step

pub data Reply (A : Type 0) : Type 0 where
  gives : A → Reply A
  throws : ℕ → Reply A

-- Each reply may depend on all earlier steps. Values of the outside are numbers
pub record Outside : Type 0 where
  pub value : History → Step → Reply ℕ  -- to an evaluation, or to a read of an object of the outside
  pub key : History → ℕ → Reply Key  -- to a conversion
  pub keys : History → ℕ → Reply (List Key)  -- to a listing: of all own properties, enumerable or not
  pub shown : History → ℕ → Key → Bool  -- no step: whether the object has the key now, and enumerable ([[GetOwnProperty]])
  pub lacks : History → ℕ → Key → Bool  -- no step: whether it lacks a key that it listed, as an exotic object of the host may
  pub null : ℕ → Bool  -- whether a value is null or undefined
  pub loose : ℕ → Bool  -- whether it equals null by `==` (Abstract Equality Comparison, B.3.7)
  pub tame : ℕ → Bool  -- whether the law is about copies of the value (Law)
  -- what the text of S meets beyond the copied object
  pub meddled : History → Bool  -- whether Object.prototype holds `get` or `set` now
  pub inherits : History → Key → Bool  -- whether it holds the key now
  pub gathers : History → List Key → List Key  -- what `Object.keys`, `getOwnPropertySymbols`, `filter` and `push` make of the enumerable keys
  pub type_error : ℕ
  pub undefined : ℕ

-- ---- outcomes

pub data Out (A : Type 0) : Type 0 where
  ok : History → A → Out A
  threw : History → ℕ → Out A
  beyond : History → ℕ → Out A  -- a value is copied that the law is not about: nothing is said from there on
  stuck : History → Out A  -- a tree that the definitions below are not about: no plain literal comes here (proofs/Described.antt)

abbrev pub then : {A B : Type 0} → Out A → (History → A → Out B) → Out B
then (ok h a) f = f h a
then (threw h v) f = threw h v
then (beyond h n) f = beyond h n
then (stuck h) f = stuck h

abbrev pub ask : {A : Type 0} → Step → Reply A → History → Out A
ask s (gives a) h = ok (s ∷ h) a
ask s (throws v) h = threw (s ∷ h) v

-- the value that an object under construction is
abbrev pub made : Out Props → Out Value
made r = then r (λ h o. ok h (inner o))

-- a key and its value
pub data Entry : Type 0 where
  pair : Key → Value → Entry

abbrev pub put_entry : Entry → Props → Props
put_entry (pair k v) o = put k v o

-- ---- properties of a literal: 25 Property(key value flags=)

abbrev pub flags : Node → ℕ
flags p = number_at 2 p

abbrev pub is_computed : Node → Bool
is_computed p = eqb (flags p % 2) 1

-- whether a key is written: 38 StaticKey(name'), or a string or number 22 Literal(sort= spelling' form'?) with its form
unfoldable pub is_written : Node → Bool
is_written k = is 38 k || (is 22 k && ((eqb (number_at 0 k) 1 || eqb (number_at 0 k) 2) && stands 2 k))

-- the name that it is (PropName, 12.2.6)
unfoldable pub spelled : Node → List ℕ
spelled k = cond (is 38 k) (text_at_of 0 k) (text_at_of 2 k)

abbrev pub proto : List ℕ
proto = 95 ∷ 95 ∷ 112 ∷ 114 ∷ 111 ∷ 116 ∷ 111 ∷ 95 ∷ 95 ∷ []

abbrev pub is_proto : Node → Bool
is_proto k = is_written k && same_text (spelled k) proto

-- A value, a shorthand or a method, computed or not, that makes a data property: flags 0 to 7. Not so a getter or a setter (8, 16), nor
-- `__proto__: v`, which sets the prototype (B.3.1) if it is neither computed, shorthand nor a method
unfoldable pub makes : Node → Bool
makes p = is 25 p && (leb (flags p) 7 && not (eqb (flags p) 0 && is_proto (node_at_of 0 p)))

-- ---- 29 Call(callee args*) of S, which is helper 1

unfoldable pub calls_s : Node → Bool
calls_s n = is 29 n && (is 21 (node_at_of 0 n) && eqb (number_at 0 (node_at_of 0 n)) 1)

-- ---- copies

-- the literal `{}`
unfoldable pub is_blank : Node → Bool
is_blank n = is 24 n && is_empty (items_at_of 0 n)

-- an argument of S: whether it is the literal `{}`, and its value
pub data Argument : Type 0 where
  passed : Bool → Value → Argument

module _ (W : Outside) where
  -- An object that a literal made answers itself, with the same steps: it has no getters, and all its keys are enumerable. The entries q
  -- of the object p in turn, each defined by `define`
  abbrev pub pour : (Key → Value → Props → History → Out Props) → Props → Props → Props → History → Out Props
  pour define p empty o h = ok h o
  pour define p (entry k v q) o h = then (define k v o (reads (inner p) k ∷ h)) (λ h o. pour define p q o h)

  -- CreateDataProperty on an object that a literal makes: it does not fail
  abbrev pub create : Key → Value → Props → History → Out Props
  create k v o h = ok h (put k v o)

  -- CopyDataProperties (7.3.23): each key that is still there and enumerable when its turn comes
  abbrev pub take : ℕ → List Key → Props → History → Out Props
  take n [] o h = ok h o
  take n (k ∷ ks) o h =
      let yes = then (ask (reads (outer n) k) (W.value h (reads (outer n) k)) h) (λ h v. take n ks (put k (outer v) o) h) in
      let skip = take n ks o h in
      cond (W.shown h n k) yes skip

  -- null and undefined copy nothing; copying the literal `{}` is no step, copying any other empty object lists it
  unfoldable pub copy : Bool → Value → Props → History → Out Props
  copy blank (inner p) o h = let go = pour create p p o (lists (inner p) ∷ h) in cond blank (ok h o) go
  copy blank (outer n) o h =
      let go = then (ask (lists (outer n)) (W.keys h n) h) (λ h ks. take n ks o h) in
      cond (W.tame n) (cond (W.null n) (ok h o) go) (beyond h n)

  -- S at an odd place, after Babel's objectSpread2: `ownKeys(Object(t), true).forEach(k => defineProperty(e, k, t[k]))`. Enumerability
  -- is asked when the keys are listed. `defineProperty(e, k, v)` does `Object.defineProperty(e, k, {value: v, ..})` if e has k, else
  -- `e[k] = v`: the descriptor inherits a `get` or `set` of Object.prototype, and is refused then (ToPropertyDescriptor, 6.2.5.5)
  abbrev pub define_s : Key → Value → Props → History → Out Props
  define_s k v o h = cond (W.meddled h && (owns k o || W.inherits h k)) (threw h W.type_error) (ok h (put k v o))

  abbrev pub take_all_of : ℕ → List Key → Props → History → Out Props
  take_all_of n [] o h = ok h o
  take_all_of n (k ∷ ks) o h =
      then (ask (reads (outer n) k) (W.value h (reads (outer n) k)) h) (λ h v. then (define_s k (outer v) o h) (λ h o. take_all_of n ks o h))

  -- `getOwnPropertyDescriptor(t, k).enumerable` of each symbol k that is listed: a TypeError if one is not there
  abbrev pub lacks_symbol : History → ℕ → List Key → Bool
  lacks_symbol h n [] = false
  lacks_symbol h n (k ∷ ks) = (not (is_name_of k) && W.lacks h n k) || lacks_symbol h n ks

  abbrev pub take_listed : ℕ → List Key → Props → History → Out Props
  take_listed n ks o h =
      let go = take_all_of n (W.gathers h (filter (λ k. W.shown h n k) ks)) o h in
      cond (lacks_symbol h n ks) (threw h W.type_error) go

  unfoldable pub copy_s : Bool → Value → Props → History → Out Props
  copy_s blank (inner p) o h =
      let h' = lists (inner p) ∷ h in
      let go = pour define_s p (pick (outer W.undefined) (W.gathers h' (keys_of p)) p) o h' in
      cond blank (ok h o) go
  copy_s blank (outer n) o h =
      let go = then (ask (lists (outer n)) (W.keys h n) h) (λ h ks. take_listed n ks o h) in
      cond (W.tame n) (cond (W.loose n) (ok h o) go) (beyond h n)

  -- S at an even place: `Object.defineProperties(e, Object.getOwnPropertyDescriptors(t))`, no step. The rule puts only literals there
  abbrev pub define_all : Props → Props → History → Out Props
  define_all empty o h = ok h o
  define_all (entry k v p) o h = cond (W.meddled h) (threw h W.type_error) (ok h (overlay (entry k v p) o))

  -- the further arguments of S, the first of them at an odd place, or at an even one
  abbrev mutual
    pub at_odd : List Argument → Props → History → Out Props
    at_odd [] o h = ok h o
    at_odd (passed blank v ∷ vs) o h = then (copy_s blank v o h) (λ h o. at_even vs o h)

    pub at_even : List Argument → Props → History → Out Props
    at_even [] o h = ok h o
    at_even (passed blank v ∷ vs) o h = elim v [ inner p ↦ then (define_all p o h) (λ h o. at_odd vs o h) | outer n ↦ stuck h ]

  -- S, once its arguments are values: the first is the target
  abbrev pub spreads : List Argument → History → Out Props
  spreads [] h = stuck h
  spreads (passed blank (outer n) ∷ vs) h = stuck h
  spreads (passed blank (inner o) ∷ vs) h = at_odd vs o h

  -- ---- running

  -- an expression that the outside evaluates
  abbrev pub opaque : (Node → Step) → Node → History → Out Value
  opaque how n h = then (ask (how n) (W.value h (how n)) h) (λ h v. ok h (outer v))

  -- a property's key: evaluated and converted if it is computed (12.2.6, ComputedPropertyName), else as it is written
  unfoldable pub keyed : Node → History → Out Key
  keyed p h =
      let n = node_at_of 0 p in
      let computed = then (ask (computes n) (W.value h (computes n)) h) (λ h v. ask (converts v) (W.key h v) h) in
      cond (is_computed p) computed (cond (is_written n) (ok h (name (spelled n))) (stuck h))

  -- the key, then the value, which `run` gives (12.2.6 and 14.3, PropertyDefinitionEvaluation)
  unfoldable pub defined : Node → ((Node → Step) → History → Out Value) → History → Out Entry
  defined p run h =
      let go = then (keyed p h) (λ h key. then (run (λ n. names (flags p) key n) h) (λ h v. ok h (pair key v))) in
      cond (makes p) go (stuck h)

  unfoldable mutual
    -- an expression: a literal (12.2.6, Evaluation), a call of S, or one that the outside evaluates
    pub run : (Node → Step) → Node → History → Out Value
    run how (node at k fs) h =
        let literal = made (lay_at_of fs 0 empty h) in
        let call = made (then (args_at fs 1 h) (λ h vs. spreads vs h)) in
        let other = opaque how (node at k fs) h in
        cond (eqb k 24) literal (cond (calls_s (node at k fs)) call other)

    -- one property of a literal, laid on an object (12.2.6, PropertyDefinitionEvaluation): 26 Spread(arg), or a property
    pub lay : Node → Props → History → Out Props
    lay (node at k fs) o h =
        let spread = then (run_at (λ n. evaluates n) fs 0 h) (λ h v. copy (is_blank (node_at_of 0 (node at k fs))) v o h) in
        let other = then (defined (node at k fs) (λ how h. run_at how fs 1 h) h) (λ h e. ok h (put_entry e o)) in
        cond (eqb k 26) spread other

    -- the properties in turn
    pub lay_all : Items → Props → History → Out Props
    lay_all none o h = ok h o
    lay_all (hole ps) o h = lay_all ps o h
    lay_all (item p ps) o h = then (lay p o h) (λ h o. lay_all ps o h)

    -- arguments, left to right
    pub run_all : Items → History → Out (List Argument)
    run_all none h = ok h []
    run_all (hole ns) h = run_all ns h
    run_all (item n ns) h = then (run (λ n. evaluates n) n h) (λ h v. then (run_all ns h) (λ h vs. ok h (passed (is_blank n) v ∷ vs)))

    -- the list of field i as properties
    pub lay_at_of : Fields → ℕ → Props → History → Out Props
    lay_at_of done i o h = ok h o
    lay_at_of (absent fs) zero o h = ok h o
    lay_at_of (absent fs) (suc i) o h = lay_at_of fs i o h
    lay_at_of (field p fs) zero o h = lay_in p o h
    lay_at_of (field p fs) (suc i) o h = lay_at_of fs i o h

    pub lay_in : Piece → Props → History → Out Props
    lay_in (one n) o h = ok h o
    lay_in (list is) o h = lay_all is o h
    lay_in (text bs) o h = ok h o
    lay_in (byte b) o h = ok h o
    lay_in (mark b) o h = ok h o
    lay_in (number b) o h = ok h o

    -- the list of field i as arguments
    pub args_at : Fields → ℕ → History → Out (List Argument)
    args_at done i h = ok h []
    args_at (absent fs) zero h = ok h []
    args_at (absent fs) (suc i) h = args_at fs i h
    args_at (field p fs) zero h = args_in p h
    args_at (field p fs) (suc i) h = args_at fs i h

    pub args_in : Piece → History → Out (List Argument)
    args_in (one n) h = ok h []
    args_in (list is) h = run_all is h
    args_in (text bs) h = ok h []
    args_in (byte b) h = ok h []
    args_in (mark b) h = ok h []
    args_in (number b) h = ok h []

    -- the node of field i
    pub run_at : (Node → Step) → Fields → ℕ → History → Out Value
    run_at how done i h = opaque how nothing h
    run_at how (absent fs) zero h = opaque how nothing h
    run_at how (absent fs) (suc i) h = run_at how fs i h
    run_at how (field p fs) zero h = run_in how p h
    run_at how (field p fs) (suc i) h = run_at how fs i h

    pub run_in : (Node → Step) → Piece → History → Out Value
    run_in how (one n) h = run how n h
    run_in how (list is) h = opaque how nothing h
    run_in how (text bs) h = opaque how nothing h
    run_in how (byte b) h = opaque how nothing h
    run_in how (mark b) h = opaque how nothing h
    run_in how (number b) h = opaque how nothing h
