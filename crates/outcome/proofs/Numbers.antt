-- Numbers by first appearance: those that the machine gives are those of the definition, for the names of the tree.
-- Assumes nothing.
use mathlib.Core.Path.{◌≡◌, refl, sym, ap, ap₂, ◌∙◌, subst}
use mathlib.Core.Bool.{cond}
use mathlib.Core.List.{List, [], ◌∷◌, ◌++◌}
use Prim.Native.Nat.{ℕ, suc, ◌+◌, ◌*◌, ◌/◌, ◌%◌}
use lib.Dec.{eqb}
use lib.ListN.{length}
use Rattle.tree.specs.Tree.{Node, Fields, Piece, Items, wide_bytes, map_of, count, encode, encode_fields, encode_piece, encode_items}
use Rattle.tree.specs.Tree.Node.{node}
use Rattle.lowering.specs.Parts.{is}
use Rattle.lowering.specs.Collect.{Name, name_of, same, except, distinct, number_in, with_number, numbered, numbered_fields, numbered_piece, numbered_items}
use Rattle.lowering.proofs.Cases.{by_test}
use Rattle.lowering.proofs.Appearance.{In, here, there, same_is, name_self}
use Rattle.lowering.proofs.ItemLaws.{count_numbered}
use Rattle.sink.specs.Shown.{Token, place, noted, order, shown}
use Rattle.sink.specs.Shown.Token.{plain, temp}
use Rattle.sink.proofs.Names.{place_noted, order_kept}
use Rattle.sink.proofs.Firsts
use Rattle.sink.proofs.Firsts.{names_in, number_is}
use Rattle.outcome.specs.Named.{plains, tokens, tokens_fields, tokens_piece, tokens_items}

-- ---- bytes of a row, each name by its number, with its stem

module _ (number : Name → ℕ) where
  unfoldable pub bytes : List (Token Name) → List ℕ
  bytes [] = []
  bytes (plain b ∷ ts) = b ∷ bytes ts
  bytes (temp a stem ∷ ts) = 20 ∷ 3 ∷ number a % 256 ∷ number a / 256 ∷ stem ∷ bytes ts

  pub bytes_append : (ts us : List (Token Name)) → bytes (ts ++ us) ≡ bytes ts ++ bytes us
  unfolding bytes
  bytes_append [] us = refl
  bytes_append (plain b ∷ ts) us = ap (λ (x : List ℕ). b ∷ x) (bytes_append ts us)
  bytes_append (temp a stem ∷ ts) us = ap (λ (x : List ℕ). 20 ∷ 3 ∷ number a % 256 ∷ number a / 256 ∷ stem ∷ x) (bytes_append ts us)

  pub bytes_plains : (bs : List ℕ) → bytes (plains bs) ≡ bs
  unfolding bytes plains
  bytes_plains [] = refl
  bytes_plains (b ∷ bs) = ap (λ (x : List ℕ). b ∷ x) (bytes_plains bs)

-- the names of a row
abbrev pub Every : (Name → Type 0) → List Name → Type 0
Every P [] = Unit {0}
Every P (a ∷ l) = P a × Every P l

pub every_append : (P : Name → Type 0) (l m : List Name) → Every P l → Every P m → Every P (l ++ m)
every_append P [] m h k = k
every_append P (a ∷ l) m h k = (h.0, every_append P l m h.1 k)

pub every_weaker : (P Q : Name → Type 0) → ((a : Name) → P a → Q a) → (l : List Name) → Every P l → Every Q l
every_weaker P Q f [] h = tt
every_weaker P Q f (a ∷ l) h = (f a h.0, every_weaker P Q f l h.1)

pub bytes_same : (f g : Name → ℕ) (ts : List (Token Name)) → Every (λ a. f a ≡ g a) (names_in ts) → bytes f ts ≡ bytes g ts
unfolding bytes names_in
bytes_same f g [] h = refl
bytes_same f g (plain b ∷ ts) h = ap (λ (x : List ℕ). b ∷ x) (bytes_same f g ts h)
bytes_same f g (temp a stem ∷ ts) h =
    ap₂ (λ (n : ℕ) (x : List ℕ). 20 ∷ 3 ∷ n % 256 ∷ n / 256 ∷ stem ∷ x) h.0 (bytes_same f g ts h.1)

pub shown_bytes : (o : List Name) (ts : List (Token Name)) → shown same o ts ≡ bytes (λ a. place same a o) ts
unfolding bytes shown
shown_bytes o [] = refl
shown_bytes o (plain b ∷ ts) = ap (λ (x : List ℕ). b ∷ x) (shown_bytes o ts)
shown_bytes o (temp a stem ∷ ts) = ap (λ (x : List ℕ). 20 ∷ 3 ∷ place same a o % 256 ∷ place same a o / 256 ∷ stem ∷ x) (shown_bytes o ts)

-- ---- the bytes of a numbered tree

module _ (ns : List Name) where
  abbrev number_of : Name → ℕ
  number_of a = number_in same 1 ns a

  map_numbered : (fs : Fields) → map_of (numbered_fields ns fs) ≡ map_of fs
  unfolding numbered map_of
  map_numbered Fields.done = refl
  map_numbered (Fields.absent fs) = ap (λ (x : ℕ). 2 * x) (map_numbered fs)
  map_numbered (Fields.field p fs) = ap (λ (x : ℕ). 1 + 2 * x) (map_numbered fs)

  mutual
    unfolding numbered with_number name_of encode tokens bytes map_of

    pub encode_tokens : (n : Node) → encode (numbered ns n) ≡ bytes number_of (tokens n)
    encode_tokens (node at k fs) =
        by_test (eqb k 20)
        (λ e. rw e refl)
        (λ e. rw e
        (ap₂ (λ (m : ℕ) (x : List ℕ). k ∷ m ∷ x) (map_numbered fs) (encode_fields_lem fs)))

    encode_fields_lem : (fs : Fields) → encode_fields (numbered_fields ns fs) ≡ bytes number_of (tokens_fields fs)
    encode_fields_lem Fields.done = refl
    encode_fields_lem (Fields.absent fs) = encode_fields_lem fs
    encode_fields_lem (Fields.field p fs) =
        ap₂ (λ (x : List ℕ) (y : List ℕ). x ++ y) (encode_piece_lem p) (encode_fields_lem fs) ∙ sym (bytes_append number_of (tokens_piece p) (tokens_fields fs))

    encode_piece_lem : (p : Piece) → encode_piece (numbered_piece ns p) ≡ bytes number_of (tokens_piece p)
    encode_piece_lem (Piece.one n) = encode_tokens n
    encode_piece_lem (Piece.list is) =
        ap₂ (λ (c : ℕ) (x : List ℕ). wide_bytes c ++ x) (count_numbered ns is) (encode_items_lem is)
        ∙ sym (bytes_append number_of (plains (wide_bytes (count is))) (tokens_items is) ∙ ap (λ (x : List ℕ). x ++ bytes number_of (tokens_items is)) (bytes_plains number_of (wide_bytes (count is))))
    encode_piece_lem (Piece.text bs) = sym (bytes_plains number_of (wide_bytes (length bs) ++ bs))
    encode_piece_lem (Piece.byte b) = refl
    encode_piece_lem (Piece.mark b) = sym (bytes_plains number_of (wide_bytes b))
    encode_piece_lem (Piece.number b) = sym (bytes_plains number_of (wide_bytes b))

    pub encode_items_lem : (is : Items) → encode_items (numbered_items ns is) ≡ bytes number_of (tokens_items is)
    encode_items_lem Items.none = refl
    encode_items_lem (Items.hole is) = ap (λ (x : List ℕ). 0 ∷ x) (encode_items_lem is)
    encode_items_lem (Items.item n is) =
        ap₂ (λ (x : List ℕ) (y : List ℕ). x ++ y) (encode_tokens n) (encode_items_lem is) ∙ sym (bytes_append number_of (tokens n) (tokens_items is))

-- ---- first appearance, in both forms

except_same : (a : Name) (l : List Name) → Firsts.except same a l ≡ except same a l
unfolding Firsts.except except
except_same a [] = refl
except_same a (b ∷ l) =
    by_test (same a b) (λ e. rw e (except_same a l)) (λ e. rw e (ap (λ (x : List Name). b ∷ x) (except_same a l)))

distinct_same : (l : List Name) → Firsts.distinct same l ≡ distinct same l
unfolding Firsts.distinct distinct
distinct_same [] = refl
distinct_same (a ∷ l) =
    ap (λ (x : List Name). a ∷ x) (except_same a (Firsts.distinct same l) ∙ ap (except same a) (distinct_same l))

number_in_same : (from : ℕ) (l : List Name) (a : Name) → Firsts.number_in same from l a ≡ number_in same from l a
unfolding Firsts.number_in number_in
number_in_same from [] a = refl
number_in_same from (b ∷ l) a = ap (λ (x : ℕ). cond (same a b) from x) (number_in_same (suc from) l a)

-- a name of the row has a place
abbrev pub Placed : List (Token Name) → Name → Type 0
Placed ts a = (k : ℕ) × (place same a (order same [] ts) ≡ suc k)

placed_from : (ts : List (Token Name)) (seen : List Name) → Every (λ a. (k : ℕ) × (place same a (order same seen ts) ≡ suc k)) (names_in ts)
unfolding order names_in
placed_from [] seen = tt
placed_from (plain b ∷ ts) seen = placed_from ts seen
placed_from (temp a stem ∷ ts) seen =
    let r = place_noted same name_self a seen (place same a seen) refl in
    let next = noted same (place same a seen) seen a in
    ((r.0, order_kept same ts next a r.0 r.1), placed_from ts next)

pub all_placed : (ts : List (Token Name)) → Every (Placed ts) (names_in ts)
all_placed ts = placed_from ts []

-- so the machine's number is the definition's, whatever names come after those of the tree
pub number_agrees : (ts : List (Token Name)) (more : List Name) (a : Name) → Placed ts a → place same a (order same [] ts) ≡ number_in same 1 (distinct same (names_in ts ++ more)) a
number_agrees ts more a h =
    h.1 ∙ sym (number_is same same_is name_self ts more a h.0 h.1) ∙ number_in_same 1 (Firsts.distinct same (names_in ts ++ more)) a
    ∙ ap (λ (l : List Name). number_in same 1 l a) (distinct_same (names_in ts ++ more))

-- ---- a name that occurs

pub in_every : (P : Name → Type 0) (a : Name) (l : List Name) → Every P l → In a l → P a
in_every P a (b ∷ l) h (here e) = subst P (sym e) h.0
in_every P a (b ∷ l) h (there i) = in_every P a l h.1 i
in_every P a [] h x'' = elim x'' [ ]
