-- The entry: one law for each way out.
-- Assumes nothing.
use Prim.Native.Nat.{ℕ, ◌+◌, ◌-◌, ◌*◌, ◌<◌, ◌≤◌, min}
use mathlib.Core.Path.{◌≡◌, refl, sym, ap, ◌∙◌}
use mathlib.Core.List.{List}
use mathlib.Core.Bool.{Bool, true, false, cond}
use native.Mathlib.Omega.{arith}
use native.Mathlib.Decide.{dec_lt}
use lib.Dec.{ltb}
use lib.ListN.{length, get_or, replicate, length-replicate}
use borrow.Author.Tests.{le-leb, lt-leb}
use Rattle.tree.specs.Tree.{Node, encode, marks}
use Rattle.tree.specs.Tree.Node.{node}
use Rattle.tree.specs.Tree.Fields.{done, field}
use Rattle.tree.specs.Tree.Piece.{list}
use Rattle.tree.specs.Grammar.Stage.{rewritten}
use Rattle.tree.specs.Read.{Got, wide_at, read_tree}
use Rattle.tree.specs.Read.Got.{got, refused}
use Rattle.tree.proofs.Sound.{never, each_byte}
use Rattle.rewritten.specs.Rewritten.{distinct, checked, read_rewritten, is_got, is_rewritten}
use Rattle.rewritten.proofs.RewrittenExact.{rewritten_sound, checked_got}
use Rattle.drawing.specs.Pen.{put, reach}
use Rattle.drawing.proofs.DrawingWritten.{put_length}
use Rattle.drawing.proofs.DrawingEntry.{reach_over, put_zeros, reach_fits}
use Rattle.joining.specs.List.{Handed, handed, read_handed, inner_marks}
use Rattle.joining.specs.Join.{found, joined_tree}
use Rattle.joining.specs.Answer.{taken, all_found_of, fitting, after_list_of, after_tree, outcome, filled, Answered, refusal_number, Joins}
use Rattle.joining.specs.Answer.Outcome.{refusal, tree}
use Rattle.joining.specs.Writing.{Copied, whole_bytes}
use Rattle.joining.specs.Spots.{Spot, place_of, statement_of, spots, tally, shares}
use Rattle.joining.specs.Files.{In, Notes, times, Collected, found_number, Toured}
use Rattle.joining.specs.Settle.{settled, settles, Stand, names}
use Rattle.joining.specs.Entries.{run_list, Listed, Ended, Ends as Answers, IfAt}
use Rattle.joining.specs.Entries.Told.{lost}
use Rattle.std.specs.Prelude.{Option, Some, None, Result, Ok, Err}
use Rattle.std.specs.Option.{ok_or}
use Rattle.joining.specs.declared.Refusal.{Refusal}
use Rattle.joining.proofs.FallingChains.{chain_within}
use Rattle.joining.proofs.Listing.{at_ends, missing_ends, at_then}
use Rattle.joining.proofs.Times.{times_append, among_times, distinct_once, distinct_not, once_distinct}
use Rattle.joining.proofs.ListAnswered.{ListRead, list_told, list_lost}
use Rattle.joining.proofs.Settling.{Counted, counted, tally_most, node_names, all_found}
use Rattle.joining.proofs.JoinedWritten.{Program, program, whole_is}

-- ---- refusals

module _ (bytes l : List ℕ) (room : ℕ) where
  pub answered_refusal : (n answer size : ℕ) (out : List ℕ) → outcome bytes l room ≡ refusal n → (answer ≡ n) × (size ≡ 0) × (out ≡ replicate room 0) → Answered bytes l room answer size out
  unfolding filled
  answered_refusal n answer size out e r = let z : room - 0 ≡ room = omega arith in rw (e, z) r

-- on a refusal the slice is cleared at the end
pub told_refusal : (bytes l : List ℕ) (room : ℕ) (r : Result ℕ Refusal) (out : List ℕ) → Joins bytes l room r out → length out ≡ room → (e : Refusal) → r ≡ Err e → (answer size : ℕ) (out' : List ℕ) → (answer ≡ refusal_number e) × (size ≡ 0) → out' ≡ replicate (length out) 0 → Answered bytes l room answer size out'
told_refusal bytes l room r out t k e w answer size out' n z = answered_refusal bytes l room (refusal_number e) answer size out' (rw w at t) (n.0, n.1, z ∙ ap (λ (y : ℕ). replicate y 0) k)

-- the error in place of a value that is missing
pub told_missing : (bytes l : List ℕ) (room : ℕ) (r : Result ℕ Refusal) (out : List ℕ) (o : Option ℕ) (k : Result ℕ Refusal) (n e y : Refusal) → k ≡ ok_or o n → k ≡ Err e → r ≡ Err y → y ≡ e → outcome bytes l room ≡ refusal (refusal_number n) → Joins bytes l room r out
told_missing bytes l room r out o k n e y w z p q u = rw (p ∙ ap Err (q ∙ go o (sym w ∙ z))) u
  where
    go : (o : Option ℕ) → ok_or o n ≡ Err e → e ≡ n
    go None v = cc
    go (Some x) v = cc

pub told_tree : (bytes l : List ℕ) (room : ℕ) (r : Result ℕ Refusal) (out : List ℕ) → Joins bytes l room r out → (n : ℕ) → r ≡ Ok n → Answered bytes l room 0 n out
told_tree bytes l room r out t n w = (rw w at t)

-- ---- the end

module _ (bytes l : List ℕ) (room : ℕ) (X : List ℕ) (is : outcome bytes l room ≡ fitting room X) (size : ℕ) (out₂ : List ℕ) (end : size ≡ reach room 0 X) (wrote : out₂ ≡ put (replicate room 0) 0 X) where
  kept : length out₂ ≡ room
  kept = ap length wrote ∙ put_length (replicate room 0) 0 X ∙ length-replicate {A = ℕ} room 0

  far : min room 32768 < length X → min room 32768 < size
  far g = elim (dec_lt room (length X)) [
    | yes h ↦ omega (arith, reach_over room 0 X (omega arith))
    | no h ↦ omega (arith, reach_fits room 0 X (omega arith))
  ]

  over : min room 32768 < length X → outcome bytes l room ≡ refusal 7
  over g = is ∙ rw (lt-leb (length X) (min room 32768) g) refl

  here : length X ≤ min room 32768 → size ≡ length X
  here g = end ∙ reach_fits room 0 X (omega arith) ∙ omega arith

  within : length X ≤ min room 32768 → Answered bytes l room 0 size out₂
  unfolding filled
  within g =
      let y : outcome bytes l room ≡ tree X = is ∙ rw (le-leb (length X) (min room 32768) g) refl in
      rw y (refl, here g, wrote ∙ put_zeros room X (omega arith))

  pub finish_over : min (length out₂) 32768 < size → outcome bytes l room ≡ refusal 7
  finish_over h = elim (dec_lt (min room 32768) (length X)) [
    | yes g ↦ over g
    | no g ↦ (let s : size ≡ length X = here (omega arith) in absurd (omega (arith, kept)))
  ]

  pub finish : size ≤ min (length out₂) 32768 → Answered bytes l room 0 size out₂
  finish h = elim (dec_lt (min room 32768) (length X)) [
    | yes g ↦ (let s : min room 32768 < size = far g in absurd (omega (arith, kept)))
    | no g ↦ within (omega arith)
  ]

-- ---- the tree

pub no_tree_lem : (bytes l : List ℕ) (room : ℕ) → is_rewritten bytes ≡ false → outcome bytes l room ≡ refusal 3
unfolding outcome is_rewritten
no_tree_lem bytes l room e = go (read_rewritten bytes) e
  where
    go : (g : Got Node) → is_got g ≡ false → after_tree room l g ≡ refusal 3
    go (got n q k) w = never (sym w)
    go (refused r) w = refl

pub record TreeGot (bytes : List ℕ) : Type 0 where
  pub tree : Node
  pub end : ℕ
  pub next : ℕ
  pub is : read_rewritten bytes ≡ got tree end next
  pub raw : read_tree rewritten (length bytes) bytes ≡ got tree end next
  pub apart : distinct (marks tree) ≡ true
  pub encoded : encode tree ≡ bytes
  pub short : length bytes ≤ 32768
  pub program : Program tree

read_is : (bytes : List ℕ) → read_rewritten bytes ≡ checked (read_tree rewritten (length bytes) bytes)
unfolding read_rewritten
read_is bytes = refl

pub tree_got : (bytes : List ℕ) → ((i : ℕ) → get_or bytes i 0 < 256) → is_rewritten bytes ≡ true → TreeGot bytes
unfolding is_rewritten
tree_got bytes h t = go (read_rewritten bytes) refl t
  where
    unchecked : (n : Node) (q k : ℕ) → read_rewritten bytes ≡ got n q k → (read_tree rewritten (length bytes) bytes ≡ got n q k) × (distinct (marks n) ≡ true)
    unchecked n q k e = checked_got (read_tree rewritten (length bytes) bytes) n q k (sym (read_is bytes) ∙ e)

    go : (g : Got Node) → read_rewritten bytes ≡ g → is_got g ≡ true → TreeGot bytes
    go (got n q k) e w =
        let a = rewritten_sound bytes n q k (each_byte bytes h) e in
        let u = unchecked n q k e in
        let s : length (encode n) ≤ 32768 = a.tree.formed.short in
        record {
          tree = n;
          end = q;
          next = k;
          is = e;
          raw = u.0;
          apart = u.1;
          encoded = a.bytes;
          short = rw a.bytes at s;
          program = program n a.tree.formed.fits;
        }
    go (refused r) e w = never w

-- ---- the list

module _ (bytes l : List ℕ) (room : ℕ) (t : TreeGot bytes) where
  after_tree_lem : outcome bytes l room ≡ after_list_of room t.tree (read_handed l)
  unfolding outcome
  after_tree_lem = ap (after_tree room l) t.is

  times_taken : (h : Handed) (x : ℕ) → times x (taken t.tree h) ≡ times x (marks t.tree) + times x (inner_marks h)
  unfolding taken
  times_taken h x = times_append x (marks t.tree) (inner_marks h)

  module _ (b : (i : ℕ) → get_or l i 0 < 256) (seen₁ earlier holds before : List ℕ) (latest : ℕ) (c : Collected bytes seen₁ earlier holds before latest t.tree) where
    met_once : (x : ℕ) → times x c.met ≤ 1
    met_once x = rw (c.marked x) (distinct_once (marks t.tree) t.apart x)

    pub no_list_lem : run_list l c.met ≡ lost → outcome bytes l room ≡ refusal 12
    no_list_lem w = after_tree_lem ∙ go (read_handed l) refl
      where
        twice : (h : Handed) → ((x : ℕ) × (2 ≤ times x c.met + times x (inner_marks h))) → distinct (taken t.tree h) ≡ false
        twice h r =
            let o : 2 ≤ times r.0 c.met + times r.0 (inner_marks h) = r.1 in
            let m : times r.0 c.met ≡ times r.0 (marks t.tree) = c.marked r.0 in
            distinct_not (taken t.tree h) (record { which = r.0; often = let s : times r.0 (taken t.tree h) ≡ times r.0 (marks t.tree) + times r.0 (inner_marks h) = times_taken h r.0 in omega arith })

        go : (g : Got Handed) → read_handed l ≡ g → after_list_of room t.tree g ≡ refusal 12
        go (got h q k) e = rw (twice h (list_lost l (each_byte l b) c.met w h q k e)) refl
        go (refused r) e = refl

    module _ (seen₂ : List ℕ) (q : ℕ) (e : Ended seen₂ q (run_list l c.met)) where
      abbrev L : ListRead l (each_byte l b) c.met q e.met
      L = list_told l (each_byte l b) c.met q e.met e.is

      abbrev H : Handed
      H = handed L.entries L.excluded

      abbrev T : List ℕ
      T = taken t.tree H

      all_times : (x : ℕ) → times x e.met ≡ times x T
      all_times x =
          let a : times x e.met ≡ times x c.met + times x (inner_marks H) = L.met' x in
          let m : times x c.met ≡ times x (marks t.tree) = c.marked x in
          let s : times x T ≡ times x (marks t.tree) + times x (inner_marks H) = times_taken H x in
          omega arith

      apart_all : distinct T ≡ true
      apart_all = once_distinct T (λ x. rw (← all_times x) (L.once met_once x))

      noted_all : Notes seen₂ T
      noted_all = record { size = e.known.size; at = λ x h. e.known.at x h ∙ ap (λ (k : Bool). cond k 1 0) (among_times x e.met ∙ ap (ltb 0) (all_times x) ∙ sym (among_times x T)) }

      after_list : outcome bytes l room ≡ cond (all_found_of (found t.tree) L.entries) (fitting room (encode (joined_tree T t.tree H))) (refusal 13)
      after_list = after_tree_lem ∙ ap (after_list_of room t.tree) L.is ∙ rw apart_all refl

      -- ---- the statements

      abbrev S : List Spot
      S = spots 0 t.tree

      once_named : (x : ℕ) → times x (names S) ≤ 1
      once_named x =
          let a : times x (names S) ≡ times x (found t.tree) = node_names x t.tree 0 in
          let f : times x (found t.tree) ≤ times x (marks t.tree) = all_found x t.tree in
          let o : times x (marks t.tree) ≤ 1 = distinct_once (marks t.tree) t.apart x in
          omega arith

      near : (x : Spot) → In x S → (x.place < 32768) × (x.statement < 32768)
      near x i =
          let f = c.files.found x i in
          let p : x.place ≤ latest = (chain_within earlier latest x.place f.0).1 in
          let s : x.statement ≤ get_or holds x.place 0 = (chain_within before (get_or holds x.place 0) x.statement f.1).1 in
          let n : latest < 32768 = c.near in
          let o : get_or holds x.place 0 < 32768 = c.low x.place in
          (omega arith, omega arith)

      module _ (ends more held : List ℕ) (listed : Listed l ends (wide_at l 0) 2) (m : 32768 ≤ length more) (h : 32768 ≤ length held) (mz : (p : ℕ) → get_or more p 0 ≡ 0) (hz : (p : ℕ) → get_or held p 0 ≡ 0)
          (every : Bool) (more' held' : List ℕ) (w : settled every more' held' ≡ settles bytes l earlier holds before latest ends (wide_at l 0) 2 more held) where
        few_entries : 4 * length L.entries ≤ 16384
        few_entries = L.few

        stands : Stand l ends 2 L.entries
        stands = L.stand ends listed

        all_counted : Counted bytes l earlier holds before latest ends S (found t.tree) c.files once_named (λ x. node_names x t.tree 0) near more held L.entries (settled every more' held')
        all_counted = rw (w ∙ ap (λ (n : ℕ). settles bytes l earlier holds before latest ends n 2 more held) (sym L.size))
            (counted bytes l earlier holds before latest ends S (found t.tree) c.files once_named (λ x. node_names x t.tree 0) near L.entries 2 more held stands m h (λ p. rw (mz p) (let f : 4 * length L.entries ≤ 16384 = few_entries in omega arith)) (λ p. rw (hz p) (let f : 4 * length L.entries ≤ 16384 = few_entries in omega arith)))

        pub not_found : every ≡ false → outcome bytes l room ≡ refusal 13
        not_found z = after_list ∙ rw (sym all_counted.every ∙ z) refl

        module _ (z : every ≡ true) where
          found_all : outcome bytes l room ≡ fitting room (encode (joined_tree T t.tree H))
          found_all = after_list ∙ rw (sym all_counted.every ∙ z) refl

          more_is : (p : ℕ) → get_or more' p 0 ≡ tally place_of (shares L.entries) S p
          more_is p = all_counted.more' z p ∙ rw (mz p) (omega arith)

          held_is : (p : ℕ) → get_or held' p 0 ≡ tally statement_of (shares L.entries) S p
          held_is p = all_counted.held' z p ∙ rw (hz p) (omega arith)

          few_more : (p : ℕ) → get_or more' p 0 ≤ 16384
          few_more p = let f : 4 * length L.entries ≤ 16384 = few_entries in let g : tally place_of (shares L.entries) S p ≤ length L.entries = tally_most place_of S once_named L.entries p in rw (more_is p) (omega arith)

          bytes_are : whole_bytes bytes l ends seen₂ more' held' q ≡ encode (joined_tree T t.tree H)
          bytes_are =
              let p : t.tree ≡ node t.program.at 1 (field (list t.program.body) done) = t.program.is in
              whole_is seen₂ T noted_all l ends L.entries bytes more' held' stands L.size t.program.at t.program.body (ap encode (sym p) ∙ t.encoded) t.short few_more
              (λ x. more_is x ∙ ap (λ (n : Node). tally place_of (shares L.entries) (spots 0 n) x) p) (λ x. held_is x ∙ ap (λ (n : Node). tally statement_of (shares L.entries) (spots 0 n) x) p)
              q L.excluded L.last.bytes L.last.cut
              ∙ ap (λ (n : Node). encode (joined_tree T n H)) (sym p)

          module _ (out₁ : List ℕ) (clear : out₁ ≡ replicate room 0) (size : ℕ) (out₂ : List ℕ) (k : Copied out₁ 0 (whole_bytes bytes l ends seen₂ more' held' q) size out₂) where
            sized : length out₁ ≡ room
            sized = ap length clear ∙ length-replicate {A = ℕ} room 0

            pub joined_over : min (length out₂) 32768 < size → outcome bytes l room ≡ refusal 7
            joined_over = finish_over bytes l room (encode (joined_tree T t.tree H)) found_all size out₂ (k.0 ∙ (λ i. reach (sized i) 0 (bytes_are i))) (k.1 ∙ (λ i. put (clear i) 0 (bytes_are i)))

            pub joined_out : size ≤ min (length out₂) 32768 → Answered bytes l room 0 size out₂
            joined_out = finish bytes l room (encode (joined_tree T t.tree H)) found_all size out₂ (k.0 ∙ (λ i. reach (sized i) 0 (bytes_are i))) (k.1 ∙ (λ i. put (clear i) 0 (bytes_are i)))

-- ---- by what the code calls

-- whether the bytes are a tree, by the number
is_tree : (b : Bool) → found_number (Some 0) ≡ cond b 0 3 → b ≡ true
is_tree true e = refl
is_tree false e = absurd (omega arith)

is_none : (b : Bool) → found_number None ≡ cond b 0 3 → b ≡ false
is_none true e = absurd (omega arith)
is_none false e = refl

module _ (bytes l : List ℕ) (hb : (i : ℕ) → get_or bytes i 0 < 256) (hl : (i : ℕ) → get_or l i 0 < 256) (room : ℕ) (seen₁ earlier₁ holds₁ before₁ : List ℕ) (f : Option ℕ) (t : Toured bytes seen₁ earlier₁ holds₁ before₁ f) where
  pub way_3 : f ≡ None → outcome bytes l room ≡ refusal 3
  way_3 y = no_tree_lem bytes l room (is_none (is_rewritten bytes) (rw y at t).number)

  module _ (latest : ℕ) (y : f ≡ Some latest) (r : Option ℕ) (seen₂ ends : List ℕ) (ans : (met : List ℕ) → Notes seen₁ met → Answers r seen₂ (run_list l met) × IfAt r (Listed l ends (wide_at l 0) 2)) where
    told_of : Toured bytes seen₁ earlier₁ holds₁ before₁ (Some latest)
    told_of = rw y at t

    abbrev tg : TreeGot bytes
    tg = tree_got bytes hb (is_tree (is_rewritten bytes) told_of.number)

    abbrev cg : Collected bytes seen₁ earlier₁ holds₁ before₁ latest tg.tree
    cg = told_of.values tg.tree tg.end tg.next tg.raw

    pub way_12 : r ≡ None → outcome bytes l room ≡ refusal 12
    way_12 m = no_list_lem bytes l room tg hl seen₁ earlier₁ holds₁ before₁ latest cg (missing_ends r seen₂ (run_list l cg.met) m (ans cg.met cg.known).0)

    module _ (q : ℕ) (m : r ≡ Some q) (more held : List ℕ) (lm : 32768 ≤ length more) (lh : 32768 ≤ length held) (mz : (p : ℕ) → get_or more p 0 ≡ 0) (hz : (p : ℕ) → get_or held p 0 ≡ 0)
        (every : Bool) (more' held' : List ℕ) (w : settled every more' held' ≡ settles bytes l earlier₁ holds₁ before₁ latest ends (wide_at l 0) 2 more held) where
      abbrev eg : Ended seen₂ q (run_list l cg.met)
      eg = at_ends r q seen₂ (run_list l cg.met) m (ans cg.met cg.known).0

      abbrev lg : Listed l ends (wide_at l 0) 2
      lg = at_then r q (Listed l ends (wide_at l 0) 2) m (ans cg.met cg.known).1

      pub way_13 : every ≡ false → outcome bytes l room ≡ refusal 13
      way_13 z = not_found bytes l room tg hl seen₁ earlier₁ holds₁ before₁ latest cg seen₂ q eg ends more held lg lm lh mz hz every more' held' w z

      module _ (z : every ≡ true) (out₁ : List ℕ) (clear : out₁ ≡ replicate room 0) (size : ℕ) (out₂ : List ℕ) (k : length bytes ≤ 32768 → Copied out₁ 0 (whole_bytes bytes l ends seen₂ more' held' q) size out₂) where
        pub way_7 : min (length out₂) 32768 < size → outcome bytes l room ≡ refusal 7
        way_7 = joined_over bytes l room tg hl seen₁ earlier₁ holds₁ before₁ latest cg seen₂ q eg ends more held lg lm lh mz hz every more' held' w z out₁ clear size out₂ (k tg.short)

        pub way_0 : size ≤ min (length out₂) 32768 → Answered bytes l room 0 size out₂
        way_0 = joined_out bytes l room tg hl seen₁ earlier₁ holds₁ before₁ latest cg seen₂ q eg ends more held lg lm lh mz hz every more' held' w z out₁ clear size out₂ (k tg.short)
