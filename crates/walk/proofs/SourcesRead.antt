-- Holes, sources, keys as strings, and the byte of a loop that awaits: one law for each way out.
-- Assumes nothing.
use mathlib.Core.Path.{◌≡◌, refl, sym, ap, subst, ◌∙◌}
use mathlib.Core.Bool.{Bool, true, false, cond, ◌&&◌, false≢true}
use mathlib.Core.List.{List, [], ◌∷◌}
use mathlib.Core.Option.{Option, some}
use Prim.Native.Nat.{ℕ, zero, suc, ◌+◌, ◌-◌, ◌/◌, ◌≤◌, ◌<◌}
use native.Mathlib.Omega.{arith}
use lib.Dec.{eqb}
use lib.ListN.{length, take, drop, length-append, length-drop}
use lib.Seq.{take-nil, take_all, length-take-le}
use borrow.Author.Tests.{eq-eqb, ne_eqb}
use Rattle.tree.specs.Tree.{Node, Fields, Piece, Items, encode, encode_fields}
use Rattle.tree.specs.Tree.Node.{node}
use Rattle.tree.specs.Tree.Fields.{done, absent, field}
use Rattle.tree.specs.Grammar.{Sort, fields_of}
use Rattle.tree.specs.Grammar.Sort.{child, chosen, many, gaps, text, byte, mark, number}
use Rattle.tree.specs.Read.{byte_at, wide_at}
use Rattle.tree.specs.Answer.{Peeked}
use Rattle.tree.specs.Look.{onward, look_node, seek_fields}
use Rattle.tree.proofs.Look.{on_within}
use Rattle.lowering.specs.Parts.{piece_in, as_text, text_at_of, node_at_of, only}
use Rattle.lowering.specs.Made.{Context, string}
use Rattle.lowering.specs.Patterns.{key}
use Rattle.lowering.specs.Numbers.{digits_of}
use Rattle.lowering.specs.Keys.{key_sort, entry_of, key_text, promised, literal_text}
use Rattle.lowering.specs.Keys.Entry.{spelt}
use Rattle.sink.specs.Machine.{part}
use Rattle.sink.specs.Machine.Event.{put, temporary}
use Rattle.pattern.specs.declared.keys.Key.{Key}
use Rattle.pattern.specs.declared.keys.Key.TheVariants as variants
use Rattle.pattern.specs.declared.keys.Key.TheVariants.{Name, Literal, OtherForm, NoForm, Template, Private, Again, Other}
use Rattle.pattern.specs.declared.source.Read.{Read}
use Rattle.pattern.specs.declared.source.Read.TheVariants.{Expression, Temporary}
use Rattle.pattern.specs.declared.source.ReferenceBuilder.{ReferenceBuilder}
use Rattle.pattern.specs.Parts.{Content, sort_at, text_of, part_of, part_in, part_at, text_in_of, standing}
use Rattle.pattern.specs.Numbers.{Numeral, spelled_as_of, is_string_of}
use Rattle.pattern.specs.Keys.{name_in_of, form_in, beside_form, literal_by, literal_in, literal_at, key_at, key_entry, Becomes}
use Rattle.pattern.specs.Source.{Given, read_values, held_in, read_of}
use Rattle.pattern.proofs.SourceReads.{held_read}
use Rattle.pattern.proofs.KeyCases.{becomes, key_is}
use Rattle.direct.proofs.RestValues.{key_spelt}
use Rattle.walk.specs.declared.modes.Mode.{Mode}
use Rattle.walk.specs.declared.look.KeyClass.TheVariants.{AsString}
use Rattle.walk.proofs.KeyLengths.{ShortString, promised_short}
use Rattle.direct.specs.Events.{Deed, puts, excludes}
use Rattle.direct.specs.Events.Deed.{does}
use Rattle.direct.specs.Emit.{say}
use Rattle.direct.specs.Keys.{string_bytes_of}
use Rattle.walk.specs.Run.{Going, Runs, Does}
use Rattle.walk.specs.Whole.{Good}
use Rattle.walk.specs.Turns.{hole_deeds, hole_of, reads, source_of, string_at, string_of, class_entry, key_string, awaits, writes_holes}
use Rattle.walk.proofs.Running.{does_as, runs_does, runs_none, runs_as}
use Rattle.walk.proofs.SmallSteps.{string_whole}
use Rattle.walk.proofs.Opened.{good_short}
use Rattle.walk.proofs.Lookups.{when_yes, class_of, is_string, is_spelt, key_class}
use Rattle.lowering.proofs.Cases.{by_key}

-- the same from the same
runs_between : {g h h' g' : Going} {ds : List Deed} → h ≡ g → g' ≡ h' → Runs h h' ds → Runs g g' ds
runs_between {g = g} {h = h} {h' = h'} {g' = g'} {ds = ds} a b d = rw (sym a, b) d

-- ---- holes

module _ (t : List ℕ) (mode : Mode) (at : ℕ) where
  pub hole_written : {g g' : Going} (q : ℕ) (b : Bool) → b ≡ writes_holes mode → b ≡ true → q ≡ onward t at 1 → Runs g g' (puts (part at q t)) → Runs g g' (hole_deeds t mode at)
  unfolding hole_deeds
  hole_written q b i j e d = runs_as d (ap (λ (x : ℕ). puts (part at x t)) e ∙ when_yes (puts (part at (onward t at 1) t)) _ _ _ (sym i ∙ j) refl)

  pub hole_passed : {g g' : Going} (b : Bool) → b ≡ writes_holes mode → b ≡ false → g' ≡ g → Runs g g' (hole_deeds t mode at)
  unfolding hole_deeds
  hole_passed {g = g} {g' = g'} b i j e = rw (sym i, j, e) runs_none

  -- where the byte is 0
  pub does_hole : {g g' : Going} → Runs g g' (hole_deeds t mode at) → part at (onward t at 1) t ≡ 0 ∷ [] → Does g g' (hole_of mode)
  unfolding hole_deeds hole_of
  does_hole e h = does_as (runs_does e) (go (writes_holes mode))
    where
      go : (b : Bool) → say (cond b (puts (part at (onward t at 1) t)) []) ≡ cond b (say (does (put 0) ∷ [])) (say [])
      go true = ap (λ (bs : List ℕ). say (puts bs)) h
      go false = refl

-- ---- sources

-- two builders whose next reads are the same
pub same_source : (t : List ℕ) (a b : ReferenceBuilder) → read_of a ≡ read_of b → source_of t a ≡ source_of t b
same_source t a b e = ap (λ (r : Given). say (reads t r)) e

-- one whose next read is a temporary
pub reads_cell : (t : List ℕ) (b : ReferenceBuilder) (cell stem : ℕ) → read_of b ≡ Given.temporary cell stem → source_of t b ≡ say (does (temporary cell stem) ∷ [])
unfolding reads
reads_cell t b cell stem e = ap (λ (r : Given). say (reads t r)) e

pub held_source : (t : List ℕ) (b : ReferenceBuilder) (cell stem : ℕ) → b ≡ held_in cell stem → source_of t b ≡ say (does (temporary cell stem) ∷ [])
held_source t b cell stem e = reads_cell t b cell stem (ap read_of e ∙ held_read cell stem)

pub source_copied : {g h h' g' : Going} (t : List ℕ) (b : ReferenceBuilder) (r : Read) (left p q x : ℕ) → read_values r ≡ read_of b → r ≡ Expression left p → h ≡ g → x ≡ p → q ≡ (look_node t left p).next
    → Runs h h' (puts (part x q t)) → g' ≡ h' → Runs g g' (reads t (read_of b))
unfolding reads
source_copied t b r left p q x a e i f w d j =
    runs_as (runs_between i j d)
    (ap (λ (y : ℕ). puts (part y q t)) f ∙ ap (λ (y : ℕ). puts (part p y t)) w ∙ ap (reads t) (sym (ap read_values e) ∙ a))

pub source_written : {g g' : Going} (t : List ℕ) (b : ReferenceBuilder) (r : Read) (cell stem : ℕ) → read_values r ≡ read_of b → r ≡ Temporary cell stem → Runs g g' (does (temporary cell stem) ∷ []) → Runs g g' (reads t (read_of b))
unfolding reads
source_written t b r cell stem a e d = runs_as d (ap (reads t) (sym (ap read_values e) ∙ a))

-- ---- a loop that awaits

module _ (t : List ℕ) (at : ℕ) where
  pub await_yes : (k p m : ℕ) → Peeked t at k → k ≡ 8 → p ≡ onward t at 1 → Peeked t p m → m / 16 ≡ 1 → awaits t at ≡ true
  unfolding awaits
  await_yes k p m a e i f h =
      let u : eqb (byte_at t at) 8 ≡ true = eq-eqb (byte_at t at) 8 (sym a.value ∙ e) in
      let v : eqb (byte_at t (onward t at 1) / 16) 1 ≡ true = eq-eqb (byte_at t (onward t at 1) / 16) 1 (ap (λ (y : ℕ). byte_at t y / 16) (sym i) ∙ ap (λ (y : ℕ). y / 16) (sym f.value) ∙ h) in
      rw (u, v) refl

  pub await_no : (k p m : ℕ) → Peeked t at k → p ≡ onward t at 1 → Peeked t p m → (m / 16 ≡ 1 → ⊥) → awaits t at ≡ false
  unfolding awaits
  await_no k p m a i f h =
      let v : eqb (byte_at t (onward t at 1) / 16) 1 ≡ false =
      ne_eqb (byte_at t (onward t at 1) / 16) 1 (λ z. h (ap (λ (y : ℕ). y / 16) f.value ∙ ap (λ (y : ℕ). byte_at t y / 16) i ∙ z)) in
      and_false (eqb (byte_at t at) 8) _ v
    where
      and_false : (b c : Bool) → c ≡ false → b && c ≡ false
      and_false true c e = e
      and_false false c e = refl

  pub await_other : (k : ℕ) → Peeked t at k → (k ≡ 8 → ⊥) → awaits t at ≡ false
  unfolding awaits
  await_other k a h = rw (ne_eqb (byte_at t at) 8 (λ z. h (a.value ∙ z))) refl

  -- the byte is copied and passed, or there is none
  pub passes_byte : (x q r : ℕ) → awaits t at ≡ true → q ≡ onward t x 1 → r ≡ q → r ≡ cond (awaits t at) (onward t x 1) x
  passes_byte x q r b w e = rw b (e ∙ w)

  pub copies_byte : {g g' : Going} (x q : ℕ) → awaits t at ≡ true → q ≡ onward t x 1 → Runs g g' (puts (part x q t)) → Runs g g' (puts (cond (awaits t at) (part x (onward t x 1) t) []))
  copies_byte x q b w d = rw b (runs_as d (ap (λ (y : ℕ). puts (part x y t)) w))

  pub passes_none : (x : ℕ) → awaits t at ≡ false → x ≡ cond (awaits t at) (onward t x 1) x
  passes_none x b = rw b refl

  pub copies_none : {g : Going} (x : ℕ) → awaits t at ≡ false → Runs g g (puts (cond (awaits t at) (part x (onward t x 1) t) []))
  copies_none x b = rw b runs_none

-- ---- keys as strings

part_take : (l : List ℕ) (f n : ℕ) → drop f (take (f + n) l) ≡ take n (drop f l)
part_take l zero n = let e : 0 + n ≡ n = omega arith in ap (λ (x : ℕ). take x l) e
part_take [] (suc f) n = let e : suc f + n ≡ suc (f + n) = omega arith in rw e (sym (take-nil n))
part_take (x ∷ l) (suc f) n = let e : suc f + n ≡ suc (f + n) = omega arith in rw e (part_take l f n)

-- the text of a field is among the bytes of the node
text_fits : (fs : Fields) (i : ℕ) → length (as_text (piece_in fs i)) ≤ length (encode_fields fs)
unfolding piece_in encode
text_fits done i = omega arith
text_fits (absent fs) zero = omega arith
text_fits (absent fs) (suc i) = text_fits fs i
text_fits (field (Piece.one n) fs) zero = omega arith
text_fits (field (Piece.list ns) fs) zero = omega arith
text_fits (field (Piece.text bs) fs) zero = let e = length-append bs (encode_fields fs) in omega arith
text_fits (field (Piece.byte b) fs) zero = omega arith
text_fits (field (Piece.mark b) fs) zero = omega arith
text_fits (field (Piece.number b) fs) zero = omega arith
text_fits (field p fs) (suc i) = let h = text_fits fs i in simp length-append (omega arith)

pub text_short : (i : ℕ) (n : Node) → length (text_at_of i n) ≤ length (encode n)
unfolding text_at_of encode
text_short i (node at k fs) = let h = text_fits fs i in omega arith

abbrev Within : List ℕ → Content → Type 0
Within t (Content.node q) = Unit {0}
Within t (Content.list h n p) = Unit {0}
Within t (Content.text p n) = p + n ≤ length t
Within t Content.plain = Unit {0}
Within t Content.absent = Unit {0}

sort_within : (t : List ℕ) (s : Sort) (o : Option ℕ) → Within t (part_in t s o)
unfolding part_of text_of
sort_within t s Option.none = tt
sort_within t (child p) (some q) = tt
sort_within t (chosen p r) (some q) = tt
sort_within t (many p) (some q) = tt
sort_within t (gaps p) (some q) = tt
sort_within t text (some q) = let a = on_within t q 2 in let b = on_within t q (2 + wide_at t q) in omega arith
sort_within t (byte a b) (some q) = tt
sort_within t mark (some q) = tt
sort_within t number (some q) = tt

part_within : (t : List ℕ) (d at i : ℕ) → Within t (part_at t d at i)
unfolding part_at
part_within t zero at i = tt
part_within t (suc d) at i =
    sort_within t (sort_at (fields_of (byte_at t at)) i) (seek_fields t (look_node t d) (fields_of (byte_at t at)) (byte_at t (onward t at 1)) (onward t at 2) i)

-- where the bytes of a key stand
abbrev Room : List ℕ → Key → Type 0
Room t (Name p n) = p + n ≤ length t
Room t (Literal p n) = p + n ≤ length t
Room t (variants.Number v) = Unit {0}
Room t (OtherForm v) = Unit {0}
Room t NoForm = Unit {0}
Room t Template = Unit {0}
Room t Private = Unit {0}
Room t Again = Unit {0}
Room t Other = Unit {0}

name_room : (t : List ℕ) (p : Content) → Within t p → Room t (name_in_of p)
unfolding name_in_of
name_room t (Content.node q) w = omega arith
name_room t (Content.list h n p) w = omega arith
name_room t (Content.text p n) w = w
name_room t Content.plain w = omega arith
name_room t Content.absent w = omega arith

form_room : (t : List ℕ) (p : Content) → Within t p → Room t (form_in p)
unfolding form_in
form_room t (Content.node q) w = omega arith
form_room t (Content.list h n p) w = omega arith
form_room t (Content.text p n) w = w
form_room t Content.plain w = omega arith
form_room t Content.absent w = tt

beside_room : (t : List ℕ) (v : ℕ) (k : Key) (p : Content) → Within t p → Room t k → Room t (beside_form t v k p)
unfolding beside_form
beside_room t v k p w h = go (standing p) (is_string_of v (spelled_as_of (text_in_of t p)))
  where
    go : (b f : Bool) → Room t (cond b (cond f (form_in p) (OtherForm v)) k)
    go true true = form_room t p w
    go true false = tt
    go false f = h

literal_room : (t : List ℕ) (x : Numeral) (s p : Content) → Within t s → Within t p → Room t (literal_by t x s p)
unfolding literal_by
literal_room t (Numeral.decimal v) s p a b = beside_room t v (form_in s) p b (form_room t s a)
literal_room t (Numeral.hexadecimal v) s p a b = beside_room t v (variants.Number v) p b tt
literal_room t Numeral.another s p a b = form_room t p b

key_room : (t : List ℕ) (d at : ℕ) → Room t (key_at t d at)
unfolding key_at literal_at literal_in
key_room t d at =
    by_key (key_sort (look_node t d at).value)
    (λ s. rw s (name_room t (part_at t d at 0) (part_within t d at 0)))
    (λ s. rw s (literal_room t _ (part_at t d at 1) (part_at t d at 2) (part_within t d at 1) (part_within t d at 2)))
    (λ s. rw s tt)
    (λ s. rw s tt)
    (λ s. rw s tt)
    (λ s. rw s tt)

-- the text of a key that is written as a string
abbrev pub entry_text : List ℕ → Key → List ℕ
entry_text t (Name p n) = take n (drop p t)
entry_text t (Literal p n) = take n (drop p t)
entry_text t (variants.Number v) = digits_of v
entry_text t (OtherForm v) = digits_of v
entry_text t NoForm = []
entry_text t Template = []
entry_text t Private = []
entry_text t Again = []
entry_text t Other = []

entry_string : (t : List ℕ) (c : Context) (q : Node) (k : Key) → class_of k ≡ AsString → key_entry t c q k ≡ only (string (entry_text t k))
entry_string t c q (Name p n) h = refl
entry_string t c q (Literal p n) h = refl
entry_string t c q (variants.Number v) h = refl
entry_string t c q (OtherForm v) h = refl
entry_string t c q NoForm h = refl
entry_string t c q Template h = absurd (false≢true (ap is_string h))
entry_string t c q Private h = absurd (false≢true (ap is_string h))
entry_string t c q Again h = absurd (false≢true (ap is_string h))
entry_string t c q Other h = absurd (false≢true (ap is_string h))

-- the text of the first of a list
abbrev first_text : Items → List ℕ
first_text Items.none = []
first_text (Items.hole is) = []
first_text (Items.item n is) = text_at_of 2 n

string_text : (bs : List ℕ) → first_text (only (string bs)) ≡ bs
unfolding text_at_of piece_in
string_text bs = refl

-- the bytes of a key's string
pub record Spelt (t : List ℕ) (k : Node) (from n : ℕ) : Type 0 where
  pub small : n < 65536
  pub within : from + n ≤ length t
  pub string : string_bytes_of (part from (from + n) t) ≡ key_string k

module _ (t : List ℕ) (d at : ℕ) where
  abbrev here : Node
  here = (look_node t d at).value

  -- a property that has the key
  abbrev property : Node
  property = node 0 35 (field (Piece.one here) done)

  property_key : key property ≡ here
  unfolding node_at_of piece_in
  property_key = refl

  -- the text by what the key becomes
  module _ (r x : Key) (b : Becomes t d at r) (e : r ≡ x) (h : class_of x ≡ AsString) where
    spelt_one : entry_of (key_sort here) ≡ spelt
    spelt_one = sym (key_class t d at r x b e) ∙ ap class_entry h

    pub key_text_lem : key_text here ≡ entry_text t x
    key_text_lem =
        let c : Context = record { path = []; root = true; statement = true } in
        sym (string_text (key_text here))
        ∙ ap first_text
        (ap (λ (k : Node). only (string (key_text k))) (sym property_key)
        ∙ sym (key_spelt c property (ap (λ (k : Node). entry_of (key_sort k)) property_key ∙ spelt_one))
        ∙ b.entry c property property_key
        ∙ ap (key_entry t c property) e
        ∙ entry_string t c property x h)
        ∙ string_text (entry_text t x)

    pub string_is : key_string here ≡ string_bytes_of (entry_text t x)
    unfolding key_string
    string_is = rw (spelt_one, key_string) (ap string_bytes_of key_text_lem)

  literal_short : (k : Node) → length (text_at_of 2 k) ≤ 16384 → length (literal_text k) ≤ 16384
  unfolding literal_text
  literal_short k h = go (promised k) (promised_short k)
    where
      go : (o : Option (List ℕ)) → ShortString o → length {A = ℕ} (elim o [ some s ↦ s | Option.none ↦ text_at_of 2 k ]) ≤ 16384
      go (some s) w = omega arith
      go Option.none w = h

  -- it is short
  pub text_small : Good t d at → length (key_text here) ≤ 16384
  unfolding key_text
  text_small g =
      let c = good_short t d at g in
      by_key (key_sort here)
      (λ s. rw (s, key_text) (let b = text_short 0 here in omega arith))
      (λ s. rw (s, key_text) (literal_short here (let b = text_short 2 here in omega arith)))
      (λ s. rw (s, key_text) (omega arith))
      (λ s. rw (s, key_text) (omega arith))
      (λ s. rw (s, key_text) (omega arith))
      (λ s. rw (s, key_text) (omega arith))

  -- bytes of the input
  spelt_at : (r x : Key) (from n : ℕ) → Becomes t d at r → r ≡ x → class_of x ≡ AsString → Good t d at → from + n ≤ length t → entry_text t x ≡ take n (drop from t) → Spelt t here from n
  unfolding part
  spelt_at r x from n b e h g w y =
      let a : length (key_text here) ≡ n = ap length (key_text_lem r x b e h ∙ y) ∙ length-take-le n (drop from t) (simp length-drop (omega arith)) in
      let m = text_small g in
      record { small = omega arith; within = w; string = ap string_bytes_of (part_take t from n ∙ sym y) ∙ sym (string_is r x b e h) }

  room_here : (r x : Key) → Becomes t d at r → r ≡ x → Room t x
  room_here r x b e = subst (Room t) (sym (key_is b.variant) ∙ e) (key_room t d at)

  module _ (r : Key) (b : Becomes t d at r) (g : Good t d at) (from n : ℕ) where
    pub name_spelt : r ≡ Name from n → Spelt t here from n
    name_spelt e = spelt_at r (Name from n) from n b e refl g (room_here r (Name from n) b e) refl

    pub form_spelt : r ≡ Literal from n → Spelt t here from n
    form_spelt e = spelt_at r (Literal from n) from n b e refl g (room_here r (Literal from n) b e) refl

  -- a literal without a form: the string is empty
  pub bare_spelt : (r : Key) → Becomes t d at r → Good t d at → r ≡ NoForm → Spelt t here 0 0
  bare_spelt r b g e = spelt_at r NoForm 0 0 b e refl g (omega arith) refl

  -- what has no string
  pub no_string : {A : Type 0} (r k : Key) → Becomes t d at r → r ≡ k → entry_of (key_sort here) ≡ spelt → (class_entry (class_of k) ≡ spelt → ⊥) → A
  no_string r k b e h z = absurd (z (key_class t d at r k b e ∙ h))

-- the string that is written is the key's, where the key is good and written as one
module _ (t : List ℕ) (d at : ℕ) (good : Good t d at) where
  abbrev written : Node
  written = (look_node t d at).value

  spelt_whole : (from n : ℕ) → Spelt t written from n → string_at t from n ≡ key_string written
  spelt_whole from n s = string_whole t from n s.small s.within ∙ s.string

  string_found : (x : Key) → key_at t d at ≡ x → entry_of (key_sort written) ≡ spelt → string_of t x ≡ key_string written
  unfolding string_of
  string_found (Name p n) e h = spelt_whole p n (name_spelt t d at _ (becomes t d at _ refl) good p n e)
  string_found (Literal p n) e h = spelt_whole p n (form_spelt t d at _ (becomes t d at _ refl) good p n e)
  string_found (variants.Number v) e h = sym (string_is t d at _ _ (becomes t d at _ refl) e refl)
  string_found (OtherForm v) e h = sym (string_is t d at _ _ (becomes t d at _ refl) e refl)
  string_found NoForm e h = spelt_whole 0 0 (bare_spelt t d at _ (becomes t d at _ refl) good e)
  string_found Template e h = no_string t d at _ _ (becomes t d at _ refl) e h (λ z. false≢true (ap is_spelt z))
  string_found Private e h = no_string t d at _ _ (becomes t d at _ refl) e h (λ z. false≢true (ap is_spelt z))
  string_found Again e h = no_string t d at _ _ (becomes t d at _ refl) e h (λ z. false≢true (ap is_spelt z))
  string_found Other e h = no_string t d at _ _ (becomes t d at _ refl) e h (λ z. false≢true (ap is_spelt z))

pub does_string : {g g' : Going} (t : List ℕ) (d at : ℕ) → Runs g g' (puts (string_of t (key_at t d at))) → Good t d at → entry_of (key_sort (look_node t d at).value) ≡ spelt
    → Does g g' (say (puts (key_string (look_node t d at).value)))
does_string t d at e good h = runs_does (runs_as e (ap puts (string_found t d at good (key_at t d at) refl h)))

-- a key's string, by what the key becomes
module _ {g g' : Going} (t : List ℕ) (d at : ℕ) (r : Key) (b : Becomes t d at r) where
  pub writes_key : (x : Key) → r ≡ x → Runs g g' (puts (string_of t x)) → Runs g g' (puts (string_of t (key_at t d at)))
  writes_key x e k = runs_as k (ap (λ (y : Key). puts (string_of t y)) (sym e ∙ key_is b.variant))

  pub writes_name : (from n : ℕ) → r ≡ Name from n → Runs g g' (puts (string_at t from n)) → Runs g g' (puts (string_of t (key_at t d at)))
  unfolding string_of
  writes_name from n e k = writes_key (Name from n) e k

  pub writes_form : (from n : ℕ) → r ≡ Literal from n → Runs g g' (puts (string_at t from n)) → Runs g g' (puts (string_of t (key_at t d at)))
  unfolding string_of
  writes_form from n e k = writes_key (Literal from n) e k

  pub writes_number : (v : ℕ) → r ≡ variants.Number v → Runs g g' (puts (string_bytes_of (digits_of v))) → Runs g g' (puts (string_of t (key_at t d at)))
  unfolding string_of
  writes_number v e k = writes_key (variants.Number v) e k

  pub writes_other : (v : ℕ) → r ≡ OtherForm v → Runs g g' (puts (string_bytes_of (digits_of v))) → Runs g g' (puts (string_of t (key_at t d at)))
  unfolding string_of
  writes_other v e k = writes_key (OtherForm v) e k

  pub writes_none : r ≡ NoForm → Runs g g' (puts (string_at t 0 0)) → Runs g g' (puts (string_of t (key_at t d at)))
  unfolding string_of
  writes_none e k = writes_key NoForm e k

-- what is not written as a string
pub writes_nothing : {g : Going} (t : List ℕ) (d at : ℕ) (r x : Key) → Becomes t d at r → r ≡ x → string_of t x ≡ [] → Runs g g (puts (string_of t (key_at t d at)))
writes_nothing t d at r x b e h = runs_as runs_none (ap puts (sym h ∙ ap (string_of t) (sym e ∙ key_is b.variant)))

module _ (t : List ℕ) where
  pub no_template : string_of t Template ≡ []
  unfolding string_of
  no_template = refl

  pub no_private : string_of t Private ≡ []
  unfolding string_of
  no_private = refl

  pub no_again : string_of t Again ≡ []
  unfolding string_of
  no_again = refl

  pub no_other : string_of t Other ≡ []
  unfolding string_of
  no_other = refl

-- the digits at the end of an array
digits_part : (v from : ℕ) (bs : List ℕ) → length bs ≡ 20 → from ≤ 20 → drop from bs ≡ digits_of v → part from (from + (20 - from)) bs ≡ digits_of v
unfolding part
digits_part v from bs l h e =
    let z : from + (20 - from) ≡ 20 = omega arith in
    ap (λ (n : ℕ). drop from (take n bs)) z ∙ ap (drop from) (take_all 20 bs (omega arith)) ∙ e

-- so a string of them is written
module _ (v from : ℕ) (bs : List ℕ) (l : length bs ≡ 20) (h : from ≤ 20) (e : drop from bs ≡ digits_of v) where
  digits_string : string_at bs from (20 - from) ≡ string_bytes_of (digits_of v)
  digits_string = string_whole bs from (20 - from) (omega arith) (omega arith) ∙ ap string_bytes_of (digits_part v from bs l h e)

  pub digits_put : {g g' : Going} → Runs g g' (puts (string_at bs from (20 - from))) → Runs g g' (puts (string_bytes_of (digits_of v)))
  digits_put k = runs_as k (ap puts digits_string)

  pub digits_excluded : {g g' : Going} → Runs g g' (excludes (string_at bs from (20 - from))) → Runs g g' (excludes (string_bytes_of (digits_of v)))
  digits_excluded k = runs_as k (ap excludes digits_string)
