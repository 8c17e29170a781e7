-- One of two tours, with the places of its temporaries: what is to come, and what a step does.
use Rattle.std.specs.Prelude.{ℕ, ◌+◌, ◌-◌, ◌<◌, ◌≤◌, ◌≡◌, List, [], ◌∷◌, length}
use Rattle.tree.specs.Read.Got.{got}
use Rattle.rewritten.specs.Events.{Event}
use Rattle.rewritten.specs.Events.Event.{begins, ends, opens, closes}
use Rattle.rewritten.specs.Steps.{event_in}
use Rattle.rewritten.specs.declared.step.Event as told
use Rattle.rewritten.specs.declared.step.Event.TheVariants.{Begins, Ends, Opens, Closes, Hole, Text, Byte, Mark, Number}
use Rattle.rewritten.proofs.Pass.{coming, Inside}
use Rattle.ordering.specs.Order.{Key, key_of, placed_all}
use Rattle.ordering.specs.Places.{Knows}
use Rattle.ordering.specs.declared.key.Key as told-key
use Rattle.ordering.specs.declared.side.Side.{Side}
use Rattle.std.specs.declared.option.Option.{Option}
use Rattle.std.specs.declared.option.Option.TheVariants.{Some, None}

-- ---- events

-- a text stands within the bytes
abbrev pub Within : List ℕ → told.Event → Type 0
Within tree (Begins p kind map) = Unit {0}
Within tree Ends = Unit {0}
Within tree (Opens n) = Unit {0}
Within tree Closes = Unit {0}
Within tree Hole = Unit {0}
Within tree (Text p n) = p + n ≤ length tree
Within tree (Byte b) = Unit {0}
Within tree (Mark n) = Unit {0}
Within tree (Number n) = Unit {0}

-- the key that the code works out
abbrev pub key_in : told-key.Key → Key
key_in k = record { rank = k.rank; first = k.first; second = k.second; text = k.text.now }

pub record KeyIs (tree : List ℕ) (e : told.Event) (k : told-key.Key) : Type 0 where
  pub is : key_in k ≡ key_of (event_in tree e)

-- the number that an event is
abbrev pub number_in : Event → Option ℕ
number_in (begins at kind map) = None
number_in ends = None
number_in (opens n) = None
number_in closes = None
number_in Event.hole = None
number_in (Event.text bs) = None
number_in (Event.byte b) = None
number_in (Event.mark n) = None
number_in (Event.number n) = Some n

-- ---- a side

-- what is to come there, temporaries by their places, is es. There are frames enough, and fewer temporaries were met than bytes
pub record Coming (tree frames table : List ℕ) (s : Side) (es : List Event) : Type 0 where
  pub short : length tree ≤ 32768
  pub enough : 16384 ≤ length frames
  pub tour : Inside tree frames s.cursor (length frames)
  pub numbers : List ℕ
  pub known : Knows table numbers
  pub counted : s.met ≡ length numbers
  pub few : length numbers ≤ s.cursor.at
  pub left : List Event
  pub end : ℕ
  pub next : ℕ
  pub comes : coming tree frames s.cursor ≡ got left end next
  pub placed : placed_all s.temporary numbers left ≡ es

-- the event was the first of them
pub record Went (tree frames table : List ℕ) (s : Side) (es : List Event) (e : told.Event) (t : Side) : Type 0 where
  pub rest : List Event
  pub is : es ≡ event_in tree e ∷ rest
  pub then : Coming tree frames table t rest
  pub within : Within tree e
  pub falls : (length tree - t.cursor.at) + t.cursor.deep < (length tree - s.cursor.at) + s.cursor.deep

abbrev pub MovedSo : List ℕ → List ℕ → List ℕ → Side → List Event → Option (told.Event × Side) → Type 0
MovedSo tree frames table s es (Some (e, t)) = Went tree frames table s es e t
MovedSo tree frames table s es None = es ≡ []

pub record Moved (tree frames table : List ℕ) (s : Side) (es : List Event) (r : Option (told.Event × Side)) : Type 0 where
  pub so : MovedSo tree frames table s es r
