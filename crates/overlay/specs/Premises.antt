-- Outsides that break one premise of the law each (proofs/PremisesNeeded.antt). Every value is one that the law is about.
use Rattle.std.specs.Prelude.{◌≡◌, Bool, true, false, not, ◌||◌, List, [], ◌∷◌, ℕ, length}
use Rattle.lowering.specs.Parts.{only}
use Rattle.overlay.specs.Objects.{Key, names_first}
use Rattle.overlay.specs.Objects.Key.{name, symbol}
use Rattle.overlay.specs.Objects.Value.{outer}
use Rattle.overlay.specs.Run.{History, Outside, lacks_symbol}
use Rattle.overlay.specs.Run.Step.{evaluates, computes, names, converts, lists, reads}
use Rattle.overlay.specs.Run.Reply.{gives}
use Rattle.overlay.specs.Law.{literal_of}
use Rattle.overlay.specs.Whole.{lowered}
use Rattle.overlay.specs.Examples.{a, kx, k7, spread, doing}

abbrev was_read : History → Bool
was_read [] = false
was_read (evaluates n ∷ h) = false
was_read (computes n ∷ h) = false
was_read (names f k n ∷ h) = false
was_read (converts n ∷ h) = false
was_read (lists o ∷ h) = false
was_read (reads o k ∷ h) = true

-- by what a read hides, the keys that are listed, whether they are lacked, what `==` takes for null, what a read puts on Object.prototype,
-- and the keys of S
abbrev outside : (History → Bool) → List Key → Bool → Bool → (History → Bool) → (List Key → List Key) → Outside
outside hides ks lacks loose meddles gathers = record {
  value = λ h s. gives (length h);
  key = λ h n. gives (symbol 5);
  keys = λ h n. gives ks;
  shown = λ h n k. not (lacks || hides h);
  lacks = λ h n k. lacks;
  null = λ n. false;
  loose = λ n. loose;
  tame = λ n. true;
  meddled = meddles;
  inherits = λ h k. true;
  gathers = λ h ks. gathers ks;
  type_error = 0;
  undefined = 0;
}

-- the getter of `7` hides `x`
abbrev pub hiding : Outside
hiding = outside (λ h. was_read h) (k7 ∷ kx ∷ []) false false (λ h. false) (λ ks. names_first ks)

-- a symbol is listed before a string: no object of ECMA-262 does, an exotic object of the host may
abbrev pub mixed : Outside
mixed = outside (λ h. false) (symbol 5 ∷ kx ∷ []) false false (λ h. false) (λ ks. names_first ks)

-- a symbol is listed that is not there: no object of ECMA-262 does so, an exotic object of the host may
abbrev pub lacking : Outside
lacking = outside (λ h. false) (symbol 5 ∷ []) true false (λ h. false) (λ ks. names_first ks)

-- an [[IsHTMLDDA]] object
abbrev pub undetectable : Outside
undetectable = outside (λ h. false) (k7 ∷ kx ∷ []) false true (λ h. false) (λ ks. names_first ks)

-- the getter of a key that Object.prototype holds too, as `toString`, puts `get` on Object.prototype: none is there at the start
abbrev pub meddling : Outside
meddling = outside (λ h. false) (kx ∷ k7 ∷ []) false false (λ h. was_read h) (λ ks. names_first ks)

-- `Object.keys = () => []`
abbrev pub emptied : Outside
emptied = outside (λ h. false) (k7 ∷ kx ∷ []) false false (λ h. false) (λ ks. [])

-- a setter of `0` on Object.prototype or Array.prototype: `push` stores nothing, and S reads the key `undefined`
abbrev pub indexed : Outside
indexed = outside (λ h. false) (symbol 5 ∷ []) false false (λ h. false) (λ ks. name (117 ∷ 110 ∷ 100 ∷ 101 ∷ 102 ∷ 105 ∷ 110 ∷ 101 ∷ 100 ∷ []) ∷ [])

-- `{...a}`, lowered, does there what `{...a}` does
abbrev pub Alike : Outside → Type 0
Alike W = doing W (lowered (literal_of 0 (only (spread a)))) ≡ doing W (literal_of 0 (only (spread a)))

-- the premises, one by one and of every value
abbrev pub Steady : Outside → Type 0
Steady W = (n : ℕ) (h : History) (k k' : Key) → W.shown (reads (outer n) k ∷ h) n k' ≡ W.shown h n k'

abbrev pub Sorted : Outside → Type 0
Sorted W = (n : ℕ) (h : History) (ks : List Key) → W.keys h n ≡ gives ks → names_first ks ≡ ks

abbrev pub Owned : Outside → Type 0
Owned W = (n : ℕ) (h : History) (ks : List Key) → W.keys h n ≡ gives ks → lacks_symbol W (lists (outer n) ∷ h) n ks ≡ false

abbrev pub Strict : Outside → Type 0
Strict W = (n : ℕ) → W.loose n ≡ W.null n

abbrev pub Unmeddled : Outside → Type 0
Unmeddled W = (h : History) → W.meddled h ≡ false

-- as the premise would be if it were about the start alone
abbrev pub UnmeddledAtFirst : Outside → Type 0
UnmeddledAtFirst W = W.meddled [] ≡ false

abbrev pub Intact : Outside → Type 0
Intact W = (h : History) (ks : List Key) → W.gathers h ks ≡ names_first ks
