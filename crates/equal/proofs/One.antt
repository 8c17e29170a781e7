-- For one input there is one result: whatever numbers its temporaries get, the results are equal.
-- Assumes nothing.
use mathlib.Core.Path.{◌≡◌, refl, sym, ap, ap₂, ◌∙◌, subst}
use mathlib.Core.Bool.{Bool, true, false, cond}
use mathlib.Core.List.{List, [], ◌∷◌, ◌++◌}
use Prim.Native.Nat.{ℕ}
use lib.Dec.{eqb}
use Rattle.tree.specs.Tree.{Node, Fields, Piece, Items, wide_bytes, encode, encode_items}
use Rattle.tree.specs.Tree.Node.{node}
use Rattle.tree.specs.Tree.Fields.{done, absent, field}
use Rattle.tree.specs.Tree.Piece.{one, list, text, byte, mark, number}
use Rattle.tree.specs.Tree.Items.{none, hole, item}
use Rattle.tree.specs.Grammar.Stage.{input}
use Rattle.tree.specs.Read.{read_tree}
use Rattle.tree.specs.Read.Got.{got}
use Rattle.lowering.specs.Parts.{is}
use Rattle.lowering.specs.Collect.{Name, Entry, over, same, name_of, name_at, nodes, nodes_fields, nodes_piece, nodes_items, list_nodes, distinct, number_in, names_of, with_number, numbered, numbered_fields, numbered_piece, numbered_items, declarator_bytes, entry_bytes, list_bytes}
use Rattle.lowering.specs.Answer.{Lent, lowering}
use Rattle.lowering.specs.Answer.Result.{lowered}
use Rattle.lowering.proofs.Appearance.{In, here, there, in_first, in_second, renamed, Keeps, same_is, name_self}
use Rattle.lowering.proofs.Cases.{by_test}
use Rattle.lowering.proofs.CallLowers.{lowers}
use Rattle.lowering.proofs.ItemLaws.{over_append, count_numbered}
use Rattle.equal.specs.Canonical.{Written, numbers, numbers_fields, numbers_piece, numbers_items, renumbered, renumbered_fields, renumbered_piece, renumbered_items, place_of, numbers_list, numbers_written, each_entry, renumbered_written, canonical_written}
use Rattle.equal.specs.Equal.{entry_encoded, list_encoded, EqualWritten}
use Rattle.equal.specs.Results.{written_by, NamesAll, tree_of, entries_of, excluded_of, result_by, own_names}
use Rattle.equal.proofs.PlacesByAppearance.{among, numbers_keep, place_renamed}
use Rattle.equal.proofs.Renumber.{written, listed}
use Rattle.equal.proofs.Unplaced.{each_length}

-- ---- the names of the temporaries that get a number, in byte order

unfoldable mutual
  names : Node → List Name
  names (node at k fs) = cond (eqb k 20) (name_of (node at k fs) ∷ []) (names_fields fs)

  names_fields : Fields → List Name
  names_fields done = []
  names_fields (absent fs) = names_fields fs
  names_fields (field p fs) = names_piece p ++ names_fields fs

  names_piece : Piece → List Name
  names_piece (one n) = names n
  names_piece (list is) = names_items is
  names_piece (text bs) = []
  names_piece (byte b) = []
  names_piece (mark b) = []
  names_piece (number b) = []

  names_items : Items → List Name
  names_items none = []
  names_items (hole is) = names_items is
  names_items (item n is) = names n ++ names_items is

abbrev names_entries : List Entry → List Name
names_entries es = over (λ e. names_items e.declarators) es

abbrev names_all : Node → List Entry → Items → List Name
names_all n es excluded = names n ++ (names_entries es ++ names_items excluded)

-- they are names that stand in tree and list

joined : (a : Name) (xs ys : List Name) (us vs : List Node) → (In a xs → In a (over name_at us)) → (In a ys → In a (over name_at vs)) → In a (xs ++ ys) → In a (over name_at (us ++ vs))
joined a xs ys us vs f g i = subst (In a) (sym (over_append name_at us vs)) (go xs f i)
  where
    go : (zs : List Name) → (In a zs → In a (over name_at us)) → In a (zs ++ ys) → In a (over name_at us ++ over name_at vs)
    go [] f i = in_second (over name_at us) (g i)
    go (z ∷ zs) f (here e) = in_first (over name_at vs) (f (here e))
    go (z ∷ zs) f (there i) = go zs (λ j. f (there j)) i

module _ (a : Name) where
  node_standing : (k at : ℕ) (fs : Fields) (us : List Node) → (In a (names_fields fs) → In a (over name_at us))
      → In a (cond (eqb k 20) (name_of (node at k fs) ∷ []) (names_fields fs)) → In a (cond (eqb k 20) (name_of (node at k fs) ∷ []) [] ++ over name_at us)
  node_standing k at fs us f i = go (eqb k 20) i
    where
      go : (b : Bool) → In a (cond b (name_of (node at k fs) ∷ []) (names_fields fs)) → In a (cond b (name_of (node at k fs) ∷ []) [] ++ over name_at us)
      go true (here e) = here e
      go false i = f i
      go true (there x3) = elim x3 [ ]

  mutual
    unfolding names nodes over name_at is

    standing : (n : Node) → In a (names n) → In a (over name_at (nodes n))
    standing (node at k fs) i = node_standing k at fs (nodes_fields fs) (λ j. fields_standing fs j) i

    fields_standing : (fs : Fields) → In a (names_fields fs) → In a (over name_at (nodes_fields fs))
    fields_standing done i = i
    fields_standing (absent fs) i = fields_standing fs i
    fields_standing (field p fs) i =
        joined a (names_piece p) (names_fields fs) (nodes_piece p) (nodes_fields fs) (λ j. piece_standing p j) (λ j. fields_standing fs j) i

    piece_standing : (p : Piece) → In a (names_piece p) → In a (over name_at (nodes_piece p))
    piece_standing (one n) i = standing n i
    piece_standing (list is) i = items_standing is i
    piece_standing (text bs) i = i
    piece_standing (byte b) i = i
    piece_standing (mark b) i = i
    piece_standing (number b) i = i

    items_standing : (is : Items) → In a (names_items is) → In a (over name_at (nodes_items is))
    items_standing none i = i
    items_standing (hole is) i = items_standing is i
    items_standing (item n is) i =
        joined a (names n) (names_items is) (nodes n) (nodes_items is) (λ j. standing n j) (λ j. items_standing is j) i

  entries_standing : (es : List Entry) → In a (names_entries es) → In a (over name_at (over (λ e. nodes_items e.declarators) es))
  unfolding over
  entries_standing [] i = i
  entries_standing (e ∷ es) i =
      joined a (names_items e.declarators) (names_entries es) (nodes_items e.declarators) (over (λ d. nodes_items d.declarators) es)
      (λ j. items_standing e.declarators j) (λ j. entries_standing es j) i

  all_standing : (n : Node) (es : List Entry) (excluded : Items) → In a (names_all n es excluded) → In a (over name_at (nodes n ++ list_nodes es excluded))
  unfolding list_nodes
  all_standing n es excluded i =
      joined a (names n) (names_entries es ++ names_items excluded) (nodes n) (over (λ e. nodes_items e.declarators) es ++ nodes_items excluded) (λ j. standing n j)
      (λ j. joined a (names_entries es) (names_items excluded) (over (λ e. nodes_items e.declarators) es) (nodes_items excluded) (λ k. entries_standing es k) (λ k. items_standing excluded k) j)
      i

-- ---- the numbers are those of the names

module _ (ns : List Name) where
  -- the number of a name
  abbrev φ : Name → ℕ
  φ a = number_in same 1 ns a

  abbrev given : List Name → List ℕ
  given xs = renamed same eqb φ xs

  given_append : (xs ys : List Name) → given (xs ++ ys) ≡ given xs ++ given ys
  given_append [] ys = refl
  given_append (x ∷ xs) ys = ap (λ (zs : List ℕ). φ x ∷ zs) (given_append xs ys)

  parted : (us vs : List ℕ) (xs ys : List Name) → us ≡ given xs → vs ≡ given ys → us ++ vs ≡ given (xs ++ ys)
  parted us vs xs ys e f = ap₂ (λ (a b : List ℕ). a ++ b) e f ∙ sym (given_append xs ys)

  mutual
    unfolding numbered with_number numbers names

    node_given : (n : Node) → numbers (numbered ns n) ≡ given (names n)
    node_given (node at k fs) = by_test (eqb k 20) (λ e. rw e refl) (λ e. rw (e, numbers) (rw e (fields_given fs)))

    fields_given : (fs : Fields) → numbers_fields false (numbered_fields ns fs) ≡ given (names_fields fs)
    fields_given done = refl
    fields_given (absent fs) = fields_given fs
    fields_given (field p fs) = parted (numbers_piece false (numbered_piece ns p)) (numbers_fields false (numbered_fields ns fs)) (names_piece p) (names_fields fs) (piece_given p) (fields_given fs)

    piece_given : (p : Piece) → numbers_piece false (numbered_piece ns p) ≡ given (names_piece p)
    piece_given (one n) = node_given n
    piece_given (list is) = items_given is
    piece_given (text bs) = refl
    piece_given (byte b) = refl
    piece_given (mark b) = refl
    piece_given (number b) = refl

    items_given : (is : Items) → numbers_items (numbered_items ns is) ≡ given (names_items is)
    items_given none = refl
    items_given (hole is) = items_given is
    items_given (item n is) = parted (numbers (numbered ns n)) (numbers_items (numbered_items ns is)) (names n) (names_items is) (node_given n) (items_given is)

  entries_given : (es : List Entry) → listed (each_entry (λ is. numbered_items ns is) es) ≡ given (names_entries es)
  unfolding over each_entry
  entries_given [] = refl
  entries_given (e ∷ es) =
      parted (numbers_items (numbered_items ns e.declarators)) (listed (each_entry (λ is. numbered_items ns is) es)) (names_items e.declarators) (names_entries es)
      (items_given e.declarators) (entries_given es)

  all_given : (n : Node) (es : List Entry) (excluded : Items) → numbers_written (written_by ns n es excluded) ≡ given (names_all n es excluded)
  unfolding numbers_written numbers_list written_by
  all_given n es excluded =
      parted (numbers (numbered ns n)) (listed (each_entry (λ is. numbered_items ns is) es) ++ numbers_items (numbered_items ns excluded)) (names n) (names_entries es ++ names_items excluded)
      (node_given n)
      (parted (listed (each_entry (λ is. numbered_items ns is) es)) (numbers_items (numbered_items ns excluded)) (names_entries es) (names_items excluded) (entries_given es) (items_given excluded))

  -- ---- renumbered by f they are the numbers of another list of names

  module _ (ms : List Name) (f : ℕ → ℕ) where
    abbrev Gives : List Name → Type 0
    Gives xs = (a : Name) → In a xs → f (φ a) ≡ number_in same 1 ms a

    front : (xs ys : List Name) → Gives (xs ++ ys) → Gives xs
    front xs ys h a i = h a (in_first ys i)

    back : (xs ys : List Name) → Gives (xs ++ ys) → Gives ys
    back xs ys h a i = h a (in_second xs i)

    mutual
      unfolding numbered with_number renumbered names

      node_other : (n : Node) → Gives (names n) → renumbered f (numbered ns n) ≡ numbered ms n
      node_other (node at k fs) h =
          by_test (eqb k 20)
          (λ e.
          let g = subst (λ (b : Bool). Gives (cond b (name_of (node at k fs) ∷ []) (names_fields fs))) e h in
          rw (e, g (name_of (node at k fs)) (here refl)))
          (λ e.
          let g = subst (λ (b : Bool). Gives (cond b (name_of (node at k fs) ∷ []) (names_fields fs))) e h in
          rw (e, renumbered) (rw e (ap (node at k) (fields_other fs g))))

      fields_other : (fs : Fields) → Gives (names_fields fs) → renumbered_fields f false (numbered_fields ns fs) ≡ numbered_fields ms fs
      fields_other done h = refl
      fields_other (absent fs) h = ap absent (fields_other fs h)
      fields_other (field p fs) h =
          ap₂ field (piece_other p (front (names_piece p) (names_fields fs) h)) (fields_other fs (back (names_piece p) (names_fields fs) h))

      piece_other : (p : Piece) → Gives (names_piece p) → renumbered_piece f false (numbered_piece ns p) ≡ numbered_piece ms p
      piece_other (one n) h = ap one (node_other n h)
      piece_other (list is) h = ap list (items_other is h)
      piece_other (text bs) h = refl
      piece_other (byte b) h = refl
      piece_other (mark b) h = refl
      piece_other (number b) h = refl

      items_other : (is : Items) → Gives (names_items is) → renumbered_items f (numbered_items ns is) ≡ numbered_items ms is
      items_other none h = refl
      items_other (hole is) h = ap hole (items_other is h)
      items_other (item n is) h =
          ap₂ item (node_other n (front (names n) (names_items is) h)) (items_other is (back (names n) (names_items is) h))

    entries_other : (es : List Entry) → Gives (names_entries es)
        → each_entry (λ is. renumbered_items f is) (each_entry (λ is. numbered_items ns is) es) ≡ each_entry (λ is. numbered_items ms is) es
    unfolding over each_entry
    entries_other [] h = refl
    entries_other (e ∷ es) h =
        ap₂ (λ (is : Items) (ds : List Entry). record { containing = e.containing; declarators = is } ∷ ds)
        (items_other e.declarators (front (names_items e.declarators) (names_entries es) h))
        (entries_other es (back (names_items e.declarators) (names_entries es) h))

    all_other : (n : Node) (es : List Entry) (excluded : Items) → Gives (names_all n es excluded)
        → renumbered_written f (written_by ns n es excluded) ≡ written_by ms n es excluded
    unfolding renumbered_written written_by
    all_other n es excluded h =
        let g = back (names n) (names_entries es ++ names_items excluded) h in
        let t = node_other n (front (names n) (names_entries es ++ names_items excluded) h) in
        let e = entries_other es (front (names_entries es) (names_items excluded) g) in
        let x = items_other excluded (back (names_entries es) (names_items excluded) g) in
        λ j. written ((t) j) ((e) j) ((x) j)

  -- ---- so the canonical form does not depend on the list

  canonical_by : (n : Node) (es : List Entry) (excluded : Items) → NamesAll ns n es excluded
      → canonical_written (written_by ns n es excluded) ≡ written_by (distinct same (names_all n es excluded)) n es excluded
  unfolding canonical_written NamesAll
  canonical_by n es excluded h =
      let xs = names_all n es excluded in
      let within : (a : Name) → In a xs → In a ns = λ a i. h a (all_standing a n es excluded i) in
      let keeps : Keeps same eqb φ xs = λ a b i j. numbers_keep same name_self same_is 1 ns a b (within a i) (within b j) in
      all_other (distinct same xs) (place_of (numbers_written (written_by ns n es excluded))) n es excluded
      (λ a i. ap (λ (ys : List ℕ). place_of ys (φ a)) (all_given n es excluded) ∙ place_renamed same name_self same_is φ xs keeps a i)

same_results : (ns ms : List Name) (n : Node) (es : List Entry) (excluded : Items) → NamesAll ns n es excluded → NamesAll ms n es excluded
    → EqualWritten (written_by ns n es excluded) (written_by ms n es excluded)
same_results ns ms n es excluded g h =
    let e : canonical_written (written_by ns n es excluded) ≡ canonical_written (written_by ms n es excluded) =
    canonical_by ns n es excluded g ∙ sym (canonical_by ms n es excluded h) in
    record { trees = ap (λ (w : Written). encode w.tree) e; lists = ap (λ (w : Written). list_encoded w.entries w.excluded) e }

-- ---- the definition's own result

-- its own list has all names
pub own_names_all : (n : Node) (es : List Entry) (excluded : Items) → NamesAll (names_of n es excluded) n es excluded
unfolding NamesAll names_of
own_names_all n es excluded a i = among same name_self same_is a (over name_at (nodes n ++ list_nodes es excluded)) i

entries_bytes : (ns : List Name) (es : List Entry) → over entry_encoded (each_entry (λ is. numbered_items ns is) es) ≡ over (entry_bytes ns) es
unfolding over each_entry entry_encoded entry_bytes declarator_bytes encode
entries_bytes ns [] = refl
entries_bytes ns (e ∷ es) =
    ap₂ (λ (xs ys : List ℕ). xs ++ ys)
    (ap (λ (m : ℕ). wide_bytes e.containing ++ (wide_bytes m ++ encode_items (numbered_items ns e.declarators))) (count_numbered ns e.declarators))
    (entries_bytes ns es)

-- the bytes of its list
pub list_bytes_lem : (ns : List Name) (n : Node) (es : List Entry) (excluded : Items)
    → list_encoded (written_by ns n es excluded).entries (written_by ns n es excluded).excluded ≡ list_bytes ns es excluded
unfolding written_by list_encoded list_bytes declarator_bytes encode
list_bytes_lem ns n es excluded =
    ap₂ (λ (xs ys : List ℕ). xs ++ ys) (ap wide_bytes (each_length (λ is. numbered_items ns is) es))
    (ap₂ (λ (xs ys : List ℕ). xs ++ ys) (entries_bytes ns es)
    (ap (λ (m : ℕ). wide_bytes m ++ encode_items (numbered_items ns excluded)) (count_numbered ns excluded)))

-- what is handed back is the result by its own names
pub record Handed (limit : ℕ) (tree t l : List ℕ) : Type 0 where
  pub n : Node
  pub end : ℕ
  pub next : ℕ
  pub read : read_tree input limit tree ≡ got n end next
  pub tree_bytes_lem : t ≡ encode (result_by (own_names next n) next n).tree
  pub list_bytes_lem : l ≡ list_encoded (result_by (own_names next n) next n).entries (result_by (own_names next n) next n).excluded

module _ (h o : ℕ) (t l : List ℕ) where
  pub handed : (limit options : ℕ) (tree : List ℕ) (s : Lent) → lowering limit options tree s ≡ lowered h o t l → Handed limit tree t l
  unfolding result_by own_names tree_of entries_of excluded_of written_by
  handed limit options tree s e =
      let x = lowers h o t l limit options tree s e in
      let b = list_bytes_lem (own_names x.next x.n) (tree_of x.next x.n) (entries_of x.next x.n) (excluded_of x.next x.n) in
      record { n = x.n; end = x.end; next = x.next; read = x.read; tree_bytes_lem = x.tree_bytes_lem; list_bytes_lem = x.list_bytes_lem ∙ sym b }

-- for one input no two results under other names are unequal
pub result_one : (next : ℕ) (n : Node) (ns ms : List Name) → NamesAll ns (tree_of next n) (entries_of next n) (excluded_of next n)
    → NamesAll ms (tree_of next n) (entries_of next n) (excluded_of next n) → EqualWritten (result_by ns next n) (result_by ms next n)
unfolding result_by
result_one next n ns ms g h = same_results ns ms (tree_of next n) (entries_of next n) (excluded_of next n) g h

-- so each of them is equal to what is handed back
pub result_own : (next : ℕ) (n : Node) (ns : List Name) → NamesAll ns (tree_of next n) (entries_of next n) (excluded_of next n)
    → EqualWritten (result_by ns next n) (result_by (own_names next n) next n)
unfolding own_names
result_own next n ns g = result_one next n ns (names_of (tree_of next n) (entries_of next n) (excluded_of next n)) g (own_names_all (tree_of next n) (entries_of next n) (excluded_of next n))
