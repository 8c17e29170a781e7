-- Small outsides, and what literals do against them, by computation.
use Rattle.std.specs.Prelude.{◌≡◌, refl, Bool, true, false, cond, List, [], ◌∷◌, ℕ, eqb, length}
use Rattle.tree.specs.Tree.{Node, Items}
use Rattle.tree.specs.Tree.Node.{node}
use Rattle.tree.specs.Tree.Fields.{done, absent, field}
use Rattle.tree.specs.Tree.Piece.{one, list, text, byte, mark}
use Rattle.tree.specs.Tree.Items.{none, item}
use Rattle.lowering.specs.Parts.{is_empty, is, node_at_of, items_at_of, text_at_of, number_at, piece_in, stands, stands_in, any, only, ◌+++◌}
use Rattle.lowering.specs.Made.{S, object}
use Rattle.lowering.specs.Literals.{opened, closed, scan, literal}
use Rattle.lowering.specs.Walk.{rule_of, rewrite, opens_scope, within, each_item_of, each_piece, each_field, inside, walk}
use Rattle.lowering.specs.Weight.{is_head, extra, factor, weight, walked}
use Rattle.lowering.specs.Collect.{bare, numbered, with_number}
use Rattle.overlay.specs.Objects.{Key, Value, same, rank, put, names_first}
use Rattle.overlay.specs.Objects.Key.{name, symbol}
use Rattle.overlay.specs.Objects.Value.{outer, inner}
use Rattle.overlay.specs.Objects.Props.{empty, entry}
use Rattle.overlay.specs.Run.{is_blank, Step, History, Reply, Outside, Out, copy, copy_s, calls_s, is_written, spelled, makes, keyed, defined, run}
use Rattle.overlay.specs.Run.Step.{evaluates, computes, names, converts, lists, reads}
use Rattle.overlay.specs.Run.Reply.{gives, throws}
use Rattle.overlay.specs.Run.Out.{ok, threw}
use Rattle.overlay.specs.Plain.{fine_key, fine_method, plain, given}
use Rattle.overlay.specs.Law.{literal_of}
use Rattle.overlay.specs.Whole.{leaves, lowered}

-- ---- trees

abbrev pub called : List ℕ → Node
called s = node 0 18 (field (text s) (absent done))

-- a name of one letter
abbrev pub ref : ℕ → Node
ref c = called (c ∷ [])

abbrev pub static : List ℕ → Node
static s = node 0 38 (field (text s) done)

-- a property by its key, value and flags
abbrev pub part : Node → Node → ℕ → Node
part k w f = node 0 25 (field (one k) (field (one w) (field (byte f) done)))

abbrev pub spread : Node → Node
spread n = node 0 26 (field (one n) done)

-- `c: v`
abbrev pub prop : ℕ → Node → Node
prop c v = part (static (c ∷ [])) v 0

abbrev pub a : Node
a = ref 97

abbrev pub b : Node
b = ref 98

abbrev pub v : Node
v = ref 118

abbrev pub x : Node
x = prop 120 v

abbrev pub two : Node → Node → Items
two p q = item p (only q)

-- ---- outsides

abbrev pub kx : Key
kx = name (120 ∷ [])

abbrev pub k7 : Key
k7 = name (55 ∷ [])

-- every object has the keys ks; a computed key is symbol 5
abbrev pub outside : (History → Step → Reply ℕ) → List Key → Bool → Outside
outside value ks null = record {
  value = value;
  key = λ h n. gives (symbol 5);
  keys = λ h n. gives ks;
  shown = λ h n k. true;
  null = λ n. null;
  loose = λ n. null;
  tame = λ n. true;
  meddled = λ h. false;
  inherits = λ h k. false;
  lacks = λ h n k. false;
  gathers = λ h ks. names_first ks;
  type_error = 0;
  undefined = 0;
}

-- it replies to a step by how many came before it. Every object has the keys `7` and `x`
abbrev pub counter : Outside
counter = outside (λ h s. gives (length h)) (k7 ∷ kx ∷ []) false

-- the same, but the third step throws
abbrev pub third : Outside
third = outside (λ h s. cond (eqb (length h) 2) (throws 9) (gives (length h))) (k7 ∷ kx ∷ []) false

-- every value is null
abbrev pub nulls : Outside
nulls = outside (λ h s. gives (length h)) (k7 ∷ kx ∷ []) true

abbrev pub doing : Outside → Node → Out Value
doing W n = run W (λ e. evaluates e) n []

-- ---- runs of lowered literals

pub record Runs : Type 0 where
  -- `{...a, x: v}` is S(S({}, a), {}, {x: v}): the later x wins, and keeps the place of the first
  called : lowered (literal_of 0 (two (spread a) x)) ≡ S (item (S (two (object none) a)) (two (object none) (object (only x))))
  later : doing counter (lowered (literal_of 0 (two (spread a) x)))
      ≡ ok (names 0 kx v ∷ reads (outer 0) kx ∷ reads (outer 0) k7 ∷ lists (outer 0) ∷ evaluates a ∷ []) (inner (entry k7 (outer 2) (entry kx (outer 4) empty)))
  -- `{x: v, ...a}`: the spread wins; 7 is an index and stands first, though it was created last
  earlier : doing counter (lowered (literal_of 0 (two x (spread a))))
      ≡ ok (reads (outer 1) kx ∷ reads (outer 1) k7 ∷ lists (outer 1) ∷ evaluates a ∷ names 0 kx v ∷ []) (inner (entry k7 (outer 3) (entry kx (outer 4) empty)))
  -- `{...a, [b]: v, x: v}`: what is pending has the symbol first, and lists it last
  symbols : doing counter (lowered (literal_of 0 (item (spread a) (two (part b v 1) x))))
      ≡ ok (names 0 kx v ∷ names 1 (symbol 5) v ∷ converts 4 ∷ computes b ∷ reads (outer 0) kx ∷ reads (outer 0) k7 ∷ lists (outer 0) ∷ evaluates a ∷ [])
      (inner (entry k7 (outer 2) (entry kx (outer 7) (entry (symbol 5) (outer 6) empty))))
  -- the first read throws: x is not evaluated
  throwing : doing third (lowered (literal_of 0 (two (spread a) x))) ≡ threw (reads (outer 0) k7 ∷ lists (outer 0) ∷ evaluates a ∷ []) 9
  -- `{...{...a}}`: the inner object is listed and read too
  nested : doing counter (lowered (literal_of 0 (only (spread (literal_of 0 (only (spread a)))))))
      ≡ (let o = inner (entry k7 (outer 2) (entry kx (outer 3) empty)) in
      ok (reads o kx ∷ reads o k7 ∷ lists o ∷ reads (outer 0) kx ∷ reads (outer 0) k7 ∷ lists (outer 0) ∷ evaluates a ∷ []) o)
  -- `{...{...{}}}`: copying the literal `{}` is no step, copying the empty object that is no literal lists it
  blank : doing counter (lowered (literal_of 0 (only (spread (literal_of 0 (only (spread (literal_of 0 none))))))))
      ≡ ok (lists (inner empty) ∷ []) (inner empty)
  -- a spread of null copies nothing, and lists nothing
  nothing : doing nulls (lowered (literal_of 0 (two (spread a) x))) ≡ ok (names 0 kx v ∷ evaluates a ∷ []) (inner (entry kx (outer 1) empty))

pub runs : Runs
unfolding leaves walked walk weight extra factor is_head stands_in rewrite rule_of literal scan opened closed ◌+++◌ any is node_at_of items_at_of text_at_of number_at piece_in stands within opens_scope inside each_field each_piece each_item_of bare numbered with_number run is_blank is_empty copy copy_s calls_s is_written spelled makes keyed defined put same rank
runs = record { called = refl; later = refl; earlier = refl; symbols = refl; throwing = refl; nested = refl; blank = refl; nothing = refl }

-- ---- the slip handler: `{deadline: now, ...state}`

abbrev deadline : List ℕ
deadline = 100 ∷ 101 ∷ 97 ∷ 100 ∷ 108 ∷ 105 ∷ 110 ∷ 101 ∷ []

abbrev now : Node
now = called (110 ∷ 111 ∷ 119 ∷ [])

abbrev state : Node
state = called (115 ∷ 116 ∷ 97 ∷ 116 ∷ 101 ∷ [])

abbrev handler : Node
handler = literal_of 0 (two (part (static deadline) now 0) (spread state))

-- `now` is 1000, the state is the object 1, and its properties are 2000; it has the keys ks
abbrev bench : List Key → Outside
bench ks = outside (λ h s. elim s [ evaluates n ↦ gives 1 | computes n ↦ gives 0 | names f k n ↦ gives 1000 | converts n ↦ gives 0 | lists o ↦ gives 0 | reads o k ↦ gives 2000 ]) ks false

pub record Deadline : Type 0 where
  -- a deadline that is running wins
  running : doing (bench (name deadline ∷ [])) (lowered handler)
      ≡ ok (reads (outer 1) (name deadline) ∷ lists (outer 1) ∷ evaluates state ∷ names 0 (name deadline) now ∷ []) (inner (entry (name deadline) (outer 2000) empty))
  -- with none running, the deadline is `now`
  none_running : doing (bench []) (lowered handler)
      ≡ ok (lists (outer 1) ∷ evaluates state ∷ names 0 (name deadline) now ∷ []) (inner (entry (name deadline) (outer 1000) empty))
  -- the law speaks of this literal
  is_plain : plain handler ≡ true
  is_given : given handler ≡ true

pub running_deadline : Deadline
unfolding leaves walked walk weight extra factor is_head stands_in rewrite rule_of literal scan opened closed ◌+++◌ any is node_at_of items_at_of text_at_of number_at piece_in stands within opens_scope inside each_field each_piece each_item_of bare numbered with_number run is_blank is_empty copy copy_s calls_s is_written spelled makes keyed defined put same rank plain given fine_key fine_method Rattle.overlay.specs.Plain.bare
running_deadline = record { running = refl; none_running = refl; is_plain = refl; is_given = refl }

-- ---- which properties are plain

-- a Literal of a sort, with its form
abbrev formed : ℕ → List ℕ → Node
formed sort s = node 0 22 (field (byte sort) (field (text []) (field (text s) done)))

abbrev proto : List ℕ
proto = 95 ∷ 95 ∷ 112 ∷ 114 ∷ 111 ∷ 116 ∷ 111 ∷ 95 ∷ 95 ∷ []

-- a function expression whose body returns e
abbrev returning : Node → Node
returning e =
    node 0 14 (field (mark 1) (field (byte 2) (absent (field (list none) (absent
    (field (one (node 0 16 (absent (field (list (only (node 0 11 (field (mark 2) (field (one e) done))))) done)))) done))))))

abbrev calling : Node → Node
calling f = node 0 29 (field (one f) (field (list none) done))

abbrev eval : Node
eval = called (101 ∷ 118 ∷ 97 ∷ 108 ∷ [])

abbrev paren : Node → Node
paren e = node 0 31 (field (one e) done)

-- `super.v`
abbrev on_super : List ℕ → Node
on_super s = node 0 30 (field (one (node 0 33 (field (text s) (field (list none) done)))) (field (text (118 ∷ [])) done))

-- `([] = v)`, `({} = v)`
abbrev taking : Node → Node
taking p = node 0 27 (field (byte 1) (field (one p) (field (one v) done)))

abbrev Is : Node → Bool → Type 0
Is p t = plain (literal_of 0 (only p)) ≡ t

pub record Plains : Type 0 where
  spreading : Is (spread a) true
  value : Is x true
  shorthand : Is (part (static (118 ∷ [])) v 2) true
  method : Is (part (static (118 ∷ [])) (returning v) 4) true
  computing : Is (part a (returning v) 5) true
  -- no parser combines these: computed and shorthand, shorthand and method, all three
  computed_short : Is (part a v 3) true
  short_method : Is (part (static (118 ∷ [])) (returning v) 6) true
  all_three : Is (part a (returning v) 7) true
  string : Is (part (formed 1 (118 ∷ [])) v 0) true
  digit : Is (part (formed 2 (55 ∷ [])) v 0) true
  inside : Is (part (static (118 ∷ [])) (literal_of 0 (two (spread a) x)) 0) true
  under : Is (spread (literal_of 0 (two (spread a) x))) true
  -- keys
  bigint : Is (part (formed 5 (55 ∷ [])) v 0) false
  formless : Is (part (node 0 22 (field (byte 2) (field (text (55 ∷ [])) (absent done)))) v 0) false
  private : Is (part (node 0 39 (field (text (118 ∷ [])) done)) v 0) false
  template : Is (part (node 0 23 (field (list none) (absent done))) v 0) false
  by_literal : Is (part (literal_of 0 none) v 1) false
  computed_static : Is (part (static (118 ∷ [])) v 1) false
  -- `__proto__: v`, `"__proto__": v`, `["__proto__"]: v`, `__proto__`, `__proto__() {}`
  proto_name : Is (part (static proto) v 0) false
  proto_string : Is (part (formed 1 proto) v 0) false
  proto_computed : Is (part (formed 1 proto) v 1) true
  proto_short : Is (part (static proto) v 2) true
  proto_method : Is (part (static proto) (returning v) 4) true
  -- accessors
  getter : Is (part (static (118 ∷ [])) (returning v) 8) false
  setter : Is (part (static (118 ∷ [])) (returning v) 16) false
  getter_inside : Is (spread (literal_of 0 (only (part (static (118 ∷ [])) (returning v) 8)))) false
  -- literals and patterns further in
  wrapped : Is (spread (paren (literal_of 0 none))) false
  returned : Is (part (static (118 ∷ [])) (returning (literal_of 0 none)) 4) false
  object_pattern_lem : Is (spread (taking (node 0 34 (field (list none) (absent done))))) false
  array_pattern_lem : Is (spread (taking (node 0 36 (field (list none) (absent done))))) true
  -- `super` and direct `eval` in a method, and in a value
  on_super_lem : Is (part (static (118 ∷ [])) (returning (on_super (115 ∷ 117 ∷ 112 ∷ 101 ∷ 114 ∷ []))) 4) false
  on_super_node : Is (part (static (118 ∷ [])) (returning (on_super (83 ∷ 117 ∷ 112 ∷ 101 ∷ 114 ∷ []))) 4) false
  -- `super[@]`, an index of `super`
  super_index : Is (part (static (118 ∷ [])) (returning (on_super (115 ∷ 117 ∷ 112 ∷ 101 ∷ 114 ∷ 91 ∷ 64 ∷ 93 ∷ []))) 4) false
  direct : Is (part (static (118 ∷ [])) (returning (calling eval)) 4) false
  wrapped_direct : Is (part (static (118 ∷ [])) (returning (calling (paren eval))) 4) false
  indirect : Is (part (static (118 ∷ [])) (returning (calling (paren (node 0 28 (field (list (two v eval)) done))))) 4) true
  in_value_lem : Is (part (static (118 ∷ [])) (calling eval) 0) true

pub plains : Plains
unfolding plain Rattle.overlay.specs.Plain.bare fine_key fine_method makes is_written spelled is node_at_of items_at_of text_at_of number_at piece_in stands stands_in
plains = record {
  spreading = refl;
  value = refl;
  shorthand = refl;
  method = refl;
  computing = refl;
  computed_short = refl;
  short_method = refl;
  all_three = refl;
  string = refl;
  digit = refl;
  inside = refl;
  under = refl;
  bigint = refl;
  formless = refl;
  private = refl;
  template = refl;
  by_literal = refl;
  computed_static = refl;
  proto_name = refl;
  proto_string = refl;
  proto_computed = refl;
  proto_short = refl;
  proto_method = refl;
  getter = refl;
  setter = refl;
  getter_inside = refl;
  wrapped = refl;
  returned = refl;
  object_pattern_lem = refl;
  array_pattern_lem = refl;
  on_super_lem = refl;
  on_super_node = refl;
  super_index = refl;
  direct = refl;
  wrapped_direct = refl;
  indirect = refl;
  in_value_lem = refl;
}
