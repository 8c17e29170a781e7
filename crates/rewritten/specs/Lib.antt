-- How a pass over rewritten trees is built on this crate.
--
-- The pass is a left fold over the events of a tree: a state S, `step : S → Event → S`, `answer : S → A`, and `no : A` for bytes that are no tree.
-- What it answers is `passed step answer no s (read_tree rewritten (length tree) tree)` (Pass), which the pass's own definition by recursion on the
-- tree must equal: one law over Node, Fields, Piece and Items, with no code in it (for marks: `marks_distinct` in proofs/Marks).
--
-- The code (proofs/Reader has the laws of one; src/read itself asks `look` in place of `next`, since it has no use for events but marks, and a
-- step is handed over in memory wherever `next` has more than one caller):
--   1. An entry makes the arrays, `[usize; 16384]` frames among them, and lends them to a function that has the loop. So no goal of the loop
--      holds an array written out. Before the loop: over 32,768 bytes and under 16,384 frames are answered.
--   2. `let mut cursor = next::begin(); loop { match next::next(tree, frames, cursor) { Next(e, c) => .., Done => .., Refused => .., Full => .. } }`,
--      an arm for each. After `Done` the tree is whole exactly if cursor.at is the length.
--   3. The invariant (laws of proofs/Pass): `Inside`, and `concluded step answer no tree s (coming tree frames cursor) ≡ v`, which says what the rest
--      will make of the state. It starts by `inside_start` and `concluded_start`; goes on by `onward`, `inside_next` and `concluded_next`; ends by
--      `concluded_whole`, `concluded_early` and `concluded_refused`; `Full` is not met, by `frames_suffice`. The measure is
--      (length tree - cursor.at) + cursor.deep, and falls by `step_falls`.
--   4. A pass over a tree that was read before knows that what is pending is got: `tour_of_tree` at the start, then `rest_next`, `rest_done` and
--      `rest_refused`. It needs no `concluded`, and a step of its own may be said of the events that are left.
--   5. What an event is in the bytes says `Onward.stands`: the position, the bounds of each number, where it ends. `Onward.level` says how many
--      frames are open then: a pass that must know what is around it keeps an array of its own, by cursor.deep.
--   6. A loop may take each sort of field its own way, with no code to take apart: `task::place_next` tells whether a node comes, and `task::node`,
--      `look::list`, `text`, `mark`, `byte` and `number` find each. Its laws are those of proofs/Tasks. The tables of `tables` are made once, and lent.
pub mod Rewritten
pub mod Events
pub mod Pending
pub mod Steps
pub mod Look
pub mod Numbers
pub mod Pass
pub mod Marks
pub mod Examples
