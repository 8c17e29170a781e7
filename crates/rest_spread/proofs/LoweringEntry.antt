-- The walk of an accepted tree from its root, begun with cleared cells and ended, gives the definition's outcome.
-- Assumes nothing.
use mathlib.Core.Path.{◌≡◌, refl, sym, ap, ap₂, ◌∙◌, subst}
use mathlib.Core.Bool.{Bool, true, false, cond}
use mathlib.Core.List.{List, [], ◌∷◌, append-nil}
use Prim.Native.Nat.{ℕ, zero, suc, ◌+◌, ◌-◌, ◌*◌, ◌%◌, ◌<◌, ◌≤◌}
use native.Mathlib.Omega.{arith}
use lib.Dec.{eqb, ltb}
use lib.ListN.{length, get_or, take, replicate, length-append, length-replicate}
use lib.Seq.{length-take-le}
use borrow.Author.Tests.{eq-eqb, ne_eqb, lt-leb}
use Rattle.tree.specs.Tree.{Node}
use Rattle.tree.specs.Grammar.Stage.{input}
use Rattle.tree.specs.Read.{Got, Refusal, number_of, read_tree}
use Rattle.tree.specs.Read.Got.{got}
use Rattle.tree.specs.Answer.{Answers}
use Rattle.std.proofs.Common.{Ok, Err, Some, None}
use Rattle.std.proofs.Common as std
use Rattle.tree.specs.Answer.{refusal_number}
use Rattle.tree.specs.declared.read.Reading.{Reading}
use Rattle.tree.specs.declared.read.Refusal as reader
use Rattle.rest_spread.specs.declared.Refusal as own
use Rattle.std.proofs.lemmas.Result.{MatchResult-at_ok, MatchResult-at_err}
use Rattle.tree.specs.WellFormed.{Bytes}
use Rattle.tree.specs.Look.{look_node, Seen, seen}
use Rattle.tree.specs.Note as note
use Rattle.tree.specs.Reading.{read_into}
use Rattle.tree.specs.Read.Refusal.{not_a_tree}
use Rattle.tree.proofs.NotesKnown.{Noted, filled_law, within_limit}
use Rattle.tree.proofs.Look.{tree_node}
use Rattle.tree.proofs.Sound.{each_byte}
use Rattle.lowering.specs.Weight.{walked}
use Rattle.lowering.specs.Refusals.{limit_outside, unknown_options, small_work, too_long_of}
use Rattle.lowering.specs.Answer.{Lent, Result, Outcome, top, highest_limit, limit_refused, in_force, after_reading, filled, lowering, outcome_of, outcome}
use Rattle.lowering.proofs.Answers.{ByWalk, walk_refuses}
use Rattle.lowering.proofs.RefusalOrder.{limit_outside_lem, options_unknown, work_small, reading_decides}
use Rattle.sink.specs.declared.Sink.{Sink}
use Rattle.sink.specs.declared.Written.{Written}
use Rattle.sink.specs.Machine.{Event, State, Ended, Handed, handed_of, state_of, end_of, nothing, steps, start, finished, low}
use Rattle.direct.specs.Events.{Deed, Place, context_of, deeds, emits}
use Rattle.outcome.specs.Named.{first_refused, events_in, outcome_from}
use Rattle.outcome.proofs.Every.{accepted_is_good, accepted_outcome, accepted_refusal}
use Rattle.outcome.proofs.WalkedForms.{walked_formed}
use Rattle.outcome.proofs.Tokens.{formed_leafy}
use Rattle.outcome.proofs.Refusals.{first_refusal_lem}
use Rattle.outcome.proofs.Calm.{emits_sound}
use Rattle.walk.specs.Run.{met, Full, Way, Does}
use Rattle.walk.specs.Run.Way.{whole, full}
use Rattle.walk.proofs.KeysOnceFull.{met_first}
use Rattle.sink.proofs.Indices.{full_nothing}
use Rattle.walk.specs.Whole.{Good}
use Rattle.rest_spread.specs.Entry.{lent_of, handed_back, refused_with, Ends}
use Rattle.rest_spread.specs.Entry.{number_of as own_number}
use Rattle.rest_spread.specs.declared.Lowered.{Lowered}
use Rattle.walk.proofs.AcceptedIsGood.{noted_good}
use Rattle.rest_spread.proofs.Uncleared.{Twins, finished_same, sink_same, tree_same}

-- ---- from the root

root : Place
root = record { root = true; statement = false; mark = 0 }

root_emits : (c : Place) → c ≡ record { root = true; statement = false; mark = 0 } → (n : Node) (next : ℕ) → emits c n next ≡ deeds next 0 (walked top n)
unfolding emits
root_emits c e n next = ap (λ (x : Place). deeds next x.mark (walked (context_of x) n)) e

-- where the walk ends
walked_to : (next : ℕ) (c : Place) (n : Node) (s s' : State) (r r' : ℕ) → c ≡ record { root = true; statement = false; mark = 0 } → s.sink.mark ≡ next → r ≡ 0
    → Does (record { state = s; refusal = r }) (record { state = s'; refusal = r' }) (emits c n)
    → Way s s' (events_in (deeds next 0 (walked top n))) × (r' ≡ first_refused (deeds next 0 (walked top n)))
walked_to next c n s s' r r' e f g d =
    let ds = deeds next 0 (walked top n) in
    let same : emits c n next ≡ ds = root_emits c e n next in
    let way : Way s s' (events_in (emits c n next)) = subst (λ (m : ℕ). Way s s' (events_in (emits c n m))) f d.output in (
      subst (λ (l : List Deed). Way s s' (events_in l)) same way,
      d.refusal next ∙ ap (λ (z : ℕ). met z (emits c n next)) g ∙ met_first (emits c n next) (emits_sound c n next) ∙ ap first_refused same,
    )

-- what is handed back is what a cleared start gives; nothing, where the tree is full, whatever was done
way_ends : (a b k next : ℕ) (s s' : State) (es : List Event) → 49152 ≤ k → Twins s (start a b k next) → Way s s' es → finished s' ≡ finished (steps (start a b k next) es)
way_ends a b k next s s' es big t (whole p) = ap finished p ∙ finished_same es s (start a b k next) t
way_ends a b k next s s' es big t (full fs p f g) = ap finished p ∙ finished_same fs s (start a b k next) t ∙ none fs (subst Full p f) ∙ sym (none es g)
  where
    none : (xs : List Event) → Full (steps s xs) → finished (steps (start a b k next) xs) ≡ nothing a b k
    none xs h =
        ap (λ (l : List Event). finished (steps (start a b k next) l)) (sym (append-nil xs))
        ∙ full_nothing a b k next xs [] big (subst (λ (z : Sink). 32768 < z.tree) (tree_same xs s (start a b k next) t) h)

begun_mark : (a b k next : ℕ) (s : State) → Twins s (start a b k next) → s.sink.mark ≡ next
unfolding start
begun_mark a b k next s t = ap (λ (z : Sink). z.mark) (sink_same s (start a b k next) t)

-- ---- what is lent

-- a call keeps the lengths of the slices
pub lent_kept : (a b c a' b' c' : ℕ) → a' ≡ a → b' ≡ b → c' ≡ c
    → Path Lent (record { tree_slice = a'; list_slice = b'; work_slice = c' }) (record { tree_slice = a; list_slice = b; work_slice = c })
lent_kept a b c a' b' c' e f g = λ j. record { tree_slice = (e) j; list_slice = (f) j; work_slice = (g) j }

-- ---- a refusal

zeros : (k : ℕ) → replicate k 0 ≡ filled k []
unfolding filled
zeros k = let e : k ≡ k - length {A = ℕ} [] = omega arith in ap (λ (x : ℕ). replicate x 0) e

refused_all : (answer a b c : ℕ) (o l w : List ℕ) (r : Handed) → end_of o l w r ≡ nothing a b c
    → handed_back (record { answer = answer; helpers = 0; options = 0; tree_len = 0; list_len = 0 }) o l w
    ≡ outcome_of (record { tree_slice = a; list_slice = b; work_slice = c }) (Result.refusal answer)
unfolding nothing outcome_of
refused_all answer a b c o l w r h =
    let x = ap (λ (e : Ended). e.out) h ∙ zeros a in
    let y = ap (λ (e : Ended). e.list) h ∙ zeros b in
    let z = ap (λ (e : Ended). e.work) h ∙ zeros c in
    λ j. record { answer = answer; helpers = 0; options = 0; tree_length = 0; list_length_of = 0; tree_out = (x) j; list_out = (y) j; work = (z) j }

pub refused_by_number : (e : own.Refusal) (answer a b c : ℕ) (o l w : List ℕ) (r : Handed) → answer ≡ own_number e → end_of o l w r ≡ nothing a b c
    → handed_back (record { answer = answer; helpers = 0; options = 0; tree_len = 0; list_len = 0 }) o l w
    ≡ refused_with (record { tree_slice = a; list_slice = b; work_slice = c }) e
refused_by_number e answer a b c o l w r n h =
    refused_all answer a b c o l w r h ∙ ap (λ (m : ℕ). outcome_of (record { tree_slice = a; list_slice = b; work_slice = c }) (Result.refusal m)) n

-- each number by which the walk refuses is a byte
walk_byte : (m : ℕ) → ByWalk m → m < 256
walk_byte m ByWalk.no = omega arith
walk_byte m ByWalk.five = omega arith
walk_byte m ByWalk.six = omega arith
walk_byte m ByWalk.eleven = omega arith

refused_byte : (limit : ℕ) (given : List ℕ) → Bytes given → (n : Node) (q mark : ℕ) → read_tree input limit given ≡ got n q mark → first_refused (deeds mark 0 (walked top n)) < 256
refused_byte limit given bytes n q mark read =
    let leafy = formed_leafy (walked top n) (walked_formed top n (accepted_is_good limit given bytes n q mark read)) in
    subst (λ (m : ℕ). m < 256) (sym (first_refusal_lem (walked top n) leafy mark 0 mark 0)) (walk_byte _ (walk_refuses mark 0 top n))

-- ---- what is handed back where the walk refuses nothing

pub handed_fits : (options : ℕ) (o l w : List ℕ) (r : Written) (e : Ended) → end_of o l w (handed_of (Some r)) ≡ e
    → handed_back (record { answer = 0; helpers = r.helpers; options = options; tree_len = r.tree; list_len = r.list }) o l w ≡ outcome_from options e
unfolding outcome_from
handed_fits options o l w r e h = ap (outcome_from options) h

pub handed_over : (options answer : ℕ) (o l w : List ℕ) (e : Ended) → answer ≡ too_long_of → end_of o l w (handed_of None) ≡ e
    → handed_back (record { answer = answer; helpers = 0; options = 0; tree_len = 0; list_len = 0 }) o l w ≡ outcome_from options e
unfolding outcome_from
handed_over options answer o l w e seven h =
    ap (λ (n : ℕ). handed_back (record { answer = n; helpers = 0; options = 0; tree_len = 0; list_len = 0 }) o l w) seven ∙ ap (outcome_from options) h

-- an outcome with the number of a refusal is that of the refusal
answered : (s : Lent) (r : Result) (n : ℕ) → 0 < n → n ≡ (outcome_of s r).answer → outcome_of s (Result.refusal n) ≡ outcome_of s r
unfolding outcome_of
answered s (Result.refusal m) n p e = ap (λ (k : ℕ). outcome_of s (Result.refusal k)) e
answered s (Result.lowered h o t l) n p e = absurd (omega arith)

-- ---- what the reader answers

refused_by : (g : Got Node) (m : reader.Refusal) → Answers (Err m) g → (r : Refusal) × ((g ≡ Got.refused r) × (refusal_number m ≡ number_of r))
refused_by (got n q k) m h =
    let e : [] ≡ q ∷ k ∷ [] = h.values in
    let w : ◌≡◌ {A = ℕ} 0 1 = cc in
    absurd (omega arith)
refused_by (Got.refused r) m h = (r, (refl, h.number))

read_by : (g : Got Node) (x : Reading) → Answers (Ok x) g → (n : Node) × (g ≡ got n x.end x.mark)
read_by (got n p k) x h =
    let e : x.end ∷ x.mark ∷ [] ≡ p ∷ k ∷ [] = h.values in
    let a : p ≡ x.end = cc in
    let b : k ≡ x.mark = cc in
    (n, ap₂ (got n) a b)
read_by (Got.refused r) x h =
    let e : x.end ∷ x.mark ∷ [] ≡ [] = h.values in
    let w : ◌≡◌ {A = ℕ} 0 1 = cc in
    absurd (omega arith)

-- ---- the limit that is tested

pub limit_zero : (limit : ℕ) → limit ≡ 0 → eqb limit 0 ≡ limit_refused limit
limit_zero limit e = rw (eq-eqb limit 0 e) refl

pub limit_some : (limit : ℕ) → (limit ≡ 0 → ⊥) → ltb highest_limit limit ≡ limit_refused limit
limit_some limit e = rw (ne_eqb limit 0 e) refl

-- ---- a tree with its notes

-- a room of which twice the tree's length is lent
pub room_part : (k m : ℕ) → k ≤ m → k ≡ length {A = ℕ} (take k (replicate m 0))
room_part k m h = sym (length-take-le k (replicate m 0) (subst (λ (j : ℕ). k ≤ j) (sym (length-replicate m 0)) h))

pub room_twice : (n m : ℕ) → n + n ≤ m → length {A = ℕ} (take (2 * n) (replicate m 0)) ≡ n + n
room_twice n m h = let e : 2 * n ≡ n + n = omega arith in sym (room_part (2 * n) m (omega arith)) ∙ e

read_short : (d : ℕ) (l : List ℕ) (n : Node) (q j : ℕ) → read_tree input d l ≡ got n q j → q ≤ 16384
read_short d l n q j e = omega (arith, within_limit input d l n q j e, (tree_node l input d n q j e).1)

slice_stands : (d : ℕ) (l : List ℕ) (n : Node) (q j : ℕ) → Noted d l n q j → look_node l d 0 ≡ seen n q
slice_stands d l n q j w = let z : d + 0 ≡ d = omega arith in ap (λ (x : ℕ). look_node l x 0) (sym z) ∙ w.looks 0

-- ---- the call

module _ (limit options : ℕ) (tree out list work : List ℕ) where
  abbrev s : Lent
  s = lent_of out list work

  -- the walk of an accepted tree
  module _ (mark : ℕ) (slice : List ℕ) (each : (i : ℕ) → get_or slice i 0 < 256)
      (o l w : List ℕ) (k : Sink) (begun : 65536 ≤ length work → Twins (state_of o l w k) (start (length out) (length list) (length work) mark))
      (o' l' w' : List ℕ) (k' : Sink) (r' : ℕ)
      (does : Good slice limit 0 → Does (record { state = state_of o l w k; refusal = 0 }) (record { state = state_of o' l' w' k'; refusal = r' })
      (emits (record { root = true; statement = false; mark = 0 }) (look_node slice limit 0).value))
    where
      module _ (given : List ℕ) (n : Node) (q : ℕ) (big : 65536 ≤ length work) (read : read_tree input limit given ≡ got n q mark) (known : Noted limit slice n q mark) where
        ends : Way (state_of o l w k) (state_of o' l' w' k') (events_in (deeds mark 0 (walked top n))) × (r' ≡ first_refused (deeds mark 0 (walked top n)))
        ends =
            let c : Place = record { root = true; statement = false; mark = 0 } in
            let d : Does (record { state = state_of o l w k; refusal = 0 }) (record { state = state_of o' l' w' k'; refusal = r' }) (emits c n) =
            subst (λ (x : Seen Node). Does (record { state = state_of o l w k; refusal = 0 }) (record { state = state_of o' l' w' k'; refusal = r' }) (emits c x.value))
            (slice_stands limit slice n q mark known)
            (does (noted_good limit slice n q mark (each_byte slice each) (read_short limit given n q mark read) known)) in
            walked_to mark c n (state_of o l w k) (state_of o' l' w' k') 0 r' refl (begun_mark (length out) (length list) (length work) mark (state_of o l w k) (begun big)) refl d

      -- something is refused
      pub ends_refused : (answer : ℕ) → answer ≡ low r' → 0 < r'
          → (given : List ℕ) (n : Node) (q : ℕ) → Bytes given → 65536 ≤ length work → read_tree input limit given ≡ got n q mark → Noted limit slice n q mark
          → outcome_of s (Result.refusal answer) ≡ outcome_of s (after_reading options s (got n q mark))
      unfolding after_reading low
      ends_refused answer written some given n q bytes big read known =
          let first = (ends given n q big read known).1 in
          let same : answer ≡ r' = omega (arith, written, first, refused_byte limit given bytes n q mark read) in
          ap (λ (m : ℕ). outcome_of s (Result.refusal m)) same
          ∙ ap (outcome_of s) (sym (by_number r' some first))
        where
          by_number : (r : ℕ) → 0 < r → r ≡ first_refused (deeds mark 0 (walked top n)) → after_reading options s (got n q mark) ≡ Result.refusal r
          by_number zero h f = absurd (omega arith)
          by_number (suc r) h f = accepted_refusal limit given bytes n q mark read options s r (sym f)

      -- nothing is
      ends_handed : (x : Outcome) → r' ≡ 0 → x ≡ outcome_from options (finished (state_of o' l' w' k'))
          → (given : List ℕ) (n : Node) (q : ℕ) → Bytes given → 65536 ≤ length work → read_tree input limit given ≡ got n q mark → Noted limit slice n q mark
          → x ≡ outcome_of s (after_reading options s (got n q mark))
      unfolding after_reading
      ends_handed x none' e given n q bytes big read known =
          e ∙ ap (outcome_from options) (way_ends (length out) (length list) (length work) mark (state_of o l w k) (state_of o' l' w' k') _ (omega arith) (begun big) (ends given n q big read known).0)
          ∙ accepted_outcome limit given bytes n q mark read options s (omega arith) (sym (ends given n q big read known).1 ∙ none')

      pub ends_fits : (o'' l'' w'' : List ℕ) (v : Written) → r' ≡ 0 → end_of o'' l'' w'' (handed_of (Some v)) ≡ finished (state_of o' l' w' k')
          → (given : List ℕ) (n : Node) (q : ℕ) → Bytes given → 65536 ≤ length work → read_tree input limit given ≡ got n q mark → Noted limit slice n q mark
          → handed_back (record { answer = 0; helpers = v.helpers; options = options; tree_len = v.tree; list_len = v.list }) o'' l'' w''
          ≡ outcome_of s (after_reading options s (got n q mark))
      ends_fits o'' l'' w'' v none' e = ends_handed _ none' (handed_fits options o'' l'' w'' v (finished (state_of o' l' w' k')) e)

      -- where the result is too long, what is handed back is the outcome
      pub ends_too_long : (answer : ℕ) (o'' l'' w'' : List ℕ) → r' ≡ 0 → answer ≡ too_long_of → end_of o'' l'' w'' (handed_of None) ≡ finished (state_of o' l' w' k')
          → (given : List ℕ) (n : Node) (q : ℕ) → Bytes given → 65536 ≤ length work → read_tree input limit given ≡ got n q mark → Noted limit slice n q mark
          → handed_back (record { answer = answer; helpers = 0; options = 0; tree_len = 0; list_len = 0 }) o'' l'' w''
          ≡ outcome_of s (after_reading options s (got n q mark))
      ends_too_long answer o'' l'' w'' none' seven e =
          ends_handed _ none' (handed_over options answer o'' l'' w'' (finished (state_of o' l' w' k')) seven e)

      -- and the outcome is that of its number
      pub ends_over : (o'' l'' w'' : List ℕ) → r' ≡ 0 → end_of o'' l'' w'' (handed_of None) ≡ finished (state_of o' l' w' k')
          → (given : List ℕ) (n : Node) (q : ℕ) → Bytes given → 65536 ≤ length work → read_tree input limit given ≡ got n q mark → Noted limit slice n q mark
          → outcome_of s (Result.refusal too_long_of) ≡ outcome_of s (after_reading options s (got n q mark))
      ends_over o'' l'' w'' none' e given n q bytes big read known =
          answered s (after_reading options s (got n q mark)) too_long_of (omega arith)
          (ap (λ (x : Outcome). x.answer) (ends_too_long too_long_of o'' l'' w'' none' refl e given n q bytes big read known))

  -- what is handed back is the outcome, where it is asked for before the tree is read: `refused` is what the test gave
  module _ (refused : Bool) (tested : refused ≡ limit_refused limit) where
    pub entry_limit : (x : Outcome) → refused ≡ true → x ≡ outcome_of s (Result.refusal limit_outside) → x ≡ outcome limit options tree s
    unfolding outcome
    entry_limit x t h = h ∙ ap (outcome_of s) (sym (limit_outside_lem limit options tree s (sym tested ∙ t)))

    pub entry_options : (x : Outcome) → refused ≡ false → 15 < options → x ≡ outcome_of s (Result.refusal unknown_options) → x ≡ outcome limit options tree s
    unfolding outcome
    entry_options x t u h = h ∙ ap (outcome_of s) (sym (options_unknown limit options tree s (sym tested ∙ t) u))

    pub entry_work : (x : Outcome) → refused ≡ false → options ≤ 15 → length work < 65536 → x ≡ outcome_of s (Result.refusal small_work) → x ≡ outcome limit options tree s
    unfolding outcome
    entry_work x t k u h = h ∙ ap (outcome_of s) (sym (work_small limit options tree s (sym tested ∙ t) k u))

    -- and what the reading gives
    pub entry_read : (P : Outcome → Type 0) → refused ≡ false → options ≤ 15 → 65536 ≤ length work → P (outcome_of s (after_reading (options % 8) s (read_tree input limit tree))) → P (outcome limit options tree s)
    unfolding outcome in_force
    entry_read P t k big h = subst P (ap (outcome_of s) (sym (reading_decides limit options tree s (record { allowed = sym tested ∙ t; known = k; roomy = big })))) h

    -- a tree that is too long is none
    pub entry_long : (x : Outcome) → refused ≡ false → options ≤ 15 → 65536 ≤ length work → 16384 < length tree → x ≡ outcome_of s (Result.refusal (number_of not_a_tree)) → x ≡ outcome limit options tree s
    unfolding after_reading read_tree
    entry_long x t k big long h = entry_read (λ o. x ≡ o) t k big (h ∙ rw (lt-leb (length tree) 16384 long) refl)

-- ---- the reading

module _ (limit options : ℕ) (tree room out list work : List ℕ) (a : std.Result Reading reader.Refusal) (answered : Answers a (read_tree input limit tree)) where
  -- no tree, or one too deep
  pub read_refused : (m : reader.Refusal) → a ≡ Err m → outcome_of (lent_of out list work) (Result.refusal (refusal_number m)) ≡ outcome_of (lent_of out list work) (after_reading options (lent_of out list work) (read_tree input limit tree))
  unfolding after_reading
  read_refused m e =
      let g : (r : Refusal) × ((read_tree input limit tree ≡ Got.refused r) × (refusal_number m ≡ number_of r)) = refused_by (read_tree input limit tree) m (subst (λ (z : std.Result Reading reader.Refusal). Answers z (read_tree input limit tree)) e answered) in
      ap (λ (k : ℕ). outcome_of (lent_of out list work) (Result.refusal k)) g.1.1
      ∙ ap (λ (z : Got Node). outcome_of (lent_of out list work) (after_reading options (lent_of out list work) z)) (sym g.1.0)

  -- a tree: it is walked with its notes
  pub read_lowered : (P : Outcome → Type 0) (y : Reading) (noted : List ℕ) → a ≡ Ok y → ((i : ℕ) → get_or tree i 0 < 256) → ((i : ℕ) → get_or noted i 0 < 256) → noted ≡ read_into (read_tree input limit tree) limit tree room
      → ((l : List ℕ) (n : Node) (q : ℕ) → Bytes l → 65536 ≤ length work → read_tree input limit l ≡ got n q y.mark → Noted limit noted n q y.mark → P (outcome_of (lent_of out list work) (after_reading options (lent_of out list work) (got n q y.mark))))
      → length room ≡ length tree + length tree → 65536 ≤ length work → P (outcome_of (lent_of out list work) (after_reading options (lent_of out list work) (read_tree input limit tree)))
  unfolding read_into
  read_lowered P y noted e each all f h long big =
      let q : ℕ = y.end in
      let j : ℕ = y.mark in
      let g : (n : Node) × (read_tree input limit tree ≡ got n q j) = read_by (read_tree input limit tree) y (subst (λ (z : std.Result Reading reader.Refusal). Answers z (read_tree input limit tree)) e answered) in
      let into : noted ≡ note.filled limit tree room = f ∙ ap (λ (z : Got Node). read_into z limit tree room) g.1 in
      let known : Noted limit noted g.0 q j =
      subst (λ (z : List ℕ). Noted limit z g.0 q j) (sym into) (filled_law limit tree room g.0 q j long g.1 (subst Bytes into (each_byte noted all))) in
      subst (λ (z : Got Node). P (outcome_of (lent_of out list work) (after_reading options (lent_of out list work) z))) (sym g.1) (h tree g.0 q (each_byte tree each) big g.1 known)

-- ---- the end of a call

module _ (r : std.Result Lowered own.Refusal) (o l w : List ℕ) (s : Lent) (x : Outcome) (ends : Ends r o l w s x) where
  pub ends_lowered : (v : Lowered) → r ≡ Ok v → handed_back v o l w ≡ x
  ends_lowered v e = MatchResult-at_ok _ _ v e ends

  -- the slices have kept their lengths, and are cleared
  pub ends_with : (e : own.Refusal) → r ≡ Err e → (y : Outcome) (t : Lent) → y ≡ refused_with t e → t ≡ s → y ≡ x
  ends_with e f y t g h = g ∙ ap (λ (u : Lent). refused_with u e) h ∙ MatchResult-at_err _ _ e f ends

-- ---- for callers

lengths_within : (s : Lent) (x : Result) → ((outcome_of s x).tree_length ≤ length (outcome_of s x).tree_out) × ((outcome_of s x).list_length_of ≤ length (outcome_of s x).list_out)
unfolding outcome_of filled
lengths_within s (Result.refusal n) = (omega arith, omega arith)
lengths_within s (Result.lowered helpers options t l) =
    let a = length-append t (replicate (s.tree_slice - length t) 0) in
    let b = length-append l (replicate (s.list_slice - length l) 0) in
    (omega arith, omega arith)

-- the lengths that are handed back lie within the slices
pub handed_within : (limit options : ℕ) (tree : List ℕ) (s : Lent) (r : Lowered) (o l w : List ℕ) → handed_back r o l w ≡ outcome limit options tree s
    → (r.tree_len ≤ length o) × (r.list_len ≤ length l)
unfolding outcome
handed_within limit options tree s r o l w e =
    subst (λ (x : Outcome). (x.tree_length ≤ length x.tree_out) × (x.list_length_of ≤ length x.list_out)) (sym e) (lengths_within s (lowering limit options tree s))
