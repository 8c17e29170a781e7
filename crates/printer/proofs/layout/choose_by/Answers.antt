use mathlib.Core.Path.{◌∙◌}
use borrow.Author.Rules.{rules}
use Rattle.printer.specs.Layout.{chosen_word, choices}
use Rattle.printer.proofs.LayoutNumbers as law
use Rattle.printer.proofs.layout.choose_by.Goals as goal

pub returns-then-own-lt100 : goal.returns-then-own-lt100
returns-then-own-lt100 c = law.own_word _ _ _ _ _ c.if-own-lt100.true

pub returns-in-100 : goal.returns-in-100
unfolding chosen_word choices
returns-in-100 c = law.chosen_by 100 _ _ _ _ _ _ _ _ c.in-100.is c.note_in-note.ensures c.map_in-map.ensures c.seen_in-seen.ensures

pub returns-in-101 : goal.returns-in-101
unfolding chosen_word choices
returns-in-101 c = law.chosen_by 101 _ _ _ _ _ _ _ _ c.in-101.is c.note_in-note.ensures c.map_in-map.ensures c.seen_in-seen.ensures

pub returns-in-102 : goal.returns-in-102
unfolding chosen_word choices
returns-in-102 c = law.chosen_by 102 _ _ _ _ _ _ _ _ c.in-102.is c.note_in-note.ensures c.map_in-map.ensures c.seen_in-seen.ensures

pub returns-in-103 : goal.returns-in-103
unfolding chosen_word choices
returns-in-103 c = law.chosen_by 103 _ _ _ _ _ _ _ _ c.in-103.is c.note_in-note.ensures c.map_in-map.ensures c.seen_in-seen.ensures

pub returns-in-104 : goal.returns-in-104
unfolding chosen_word choices
returns-in-104 c = law.chosen_by 104 _ _ _ _ _ _ _ _ c.in-104.is c.note_in-note.ensures c.map_in-map.ensures c.seen_in-seen.ensures

pub returns-in-105 : goal.returns-in-105
unfolding chosen_word choices
returns-in-105 c = law.chosen_by 105 _ _ _ _ _ _ _ _ c.in-105.is c.note_in-note.ensures c.map_in-map.ensures c.seen_in-seen.ensures

pub returns-in-106 : goal.returns-in-106
unfolding chosen_word choices
returns-in-106 c = law.chosen_by 106 _ _ _ _ _ _ _ _ c.in-106.is c.note_in-note.ensures c.map_in-map.ensures c.seen_in-seen.ensures

pub returns-in-107 : goal.returns-in-107
unfolding chosen_word choices
returns-in-107 c = law.chosen_by 107 _ _ _ _ _ _ _ _ c.in-107.is c.note_in-note.ensures c.map_in-map.ensures c.seen_in-seen.ensures

pub returns-in-108 : goal.returns-in-108
unfolding chosen_word choices
returns-in-108 c = law.chosen_by 108 _ _ _ _ _ _ _ _ c.in-108.is c.note_in-note.ensures c.map_in-map.ensures c.seen_in-seen.ensures

pub returns-in-109 : goal.returns-in-109
unfolding chosen_word choices
returns-in-109 c = law.chosen_by 109 _ _ _ _ _ _ _ _ c.in-109.is c.note_in-note.ensures c.map_in-map.ensures c.seen_in-seen.ensures

pub returns-in-110 : goal.returns-in-110
unfolding chosen_word choices
returns-in-110 c = law.chosen_by 110 _ _ _ _ _ _ _ _ c.in-110.is c.note_in-note.ensures c.map_in-map.ensures c.seen_in-seen.ensures

pub returns-in-111 : goal.returns-in-111
unfolding chosen_word choices
returns-in-111 c = law.chosen_by 111 _ _ _ _ _ _ _ _ c.in-111.is c.note_in-note.ensures c.map_in-map.ensures c.seen_in-seen.ensures

pub returns-in-112 : goal.returns-in-112
unfolding chosen_word choices
returns-in-112 c = law.chosen_by 112 _ _ _ _ _ _ _ _ c.in-112.is c.note_in-note.ensures c.map_in-map.ensures c.seen_in-seen.ensures

pub returns-in-113 : goal.returns-in-113
unfolding chosen_word choices
returns-in-113 c = law.chosen_by 113 _ _ _ _ _ _ _ _ c.in-113.is c.note_in-note.ensures c.map_in-map.ensures c.seen_in-seen.ensures

pub returns-in-114 : goal.returns-in-114
unfolding chosen_word choices
returns-in-114 c = law.chosen_by 114 _ _ _ _ _ _ _ _ c.in-114.is c.note_in-note.ensures c.map_in-map.ensures c.seen_in-seen.ensures

pub returns-in-115 : goal.returns-in-115
unfolding chosen_word choices
returns-in-115 c = law.chosen_by 115 _ _ _ _ _ _ _ _ c.in-115.is c.note_in-note.ensures c.map_in-map.ensures c.seen_in-seen.ensures

pub returns-in-116 : goal.returns-in-116
unfolding chosen_word choices
returns-in-116 c = law.chosen_by 116 _ _ _ _ _ _ _ _ c.in-116.is c.note_in-note.ensures c.map_in-map.ensures c.seen_in-seen.ensures

pub returns-in-117 : goal.returns-in-117
unfolding chosen_word choices
returns-in-117 c = law.chosen_by 117 _ _ _ _ _ _ _ _ c.in-117.is c.note_in-note.ensures c.map_in-map.ensures c.seen_in-seen.ensures

pub returns-in-118 : goal.returns-in-118
unfolding chosen_word choices
returns-in-118 c = c.gap.ensures ∙ law.chosen_by 118 _ _ _ _ _ _ _ _ c.in-118.is c.note_in-note.ensures c.map_in-map.ensures c.seen_in-seen.ensures

pub returns-in-119 : goal.returns-in-119
unfolding chosen_word choices
returns-in-119 c = c.gap_rest.ensures ∙ law.chosen_by 119 _ _ _ _ _ _ _ _ c.in-119.is c.note_in-note.ensures c.map_in-map.ensures c.seen_in-seen.ensures

pub returns-in_default : goal.returns-in_default
returns-in_default c = law.no_choice _ _ _ _ _ c.if-own-lt100.false (search rules)
