-- Runs of bytes: what they leave within the limits, and how long they are past them.
-- Assumes nothing.
use mathlib.Core.Path.{◌≡◌, refl, sym, ap, ◌∙◌}
use mathlib.Core.Bool.{Bool, true, false}
use mathlib.Core.List.{List, [], ◌∷◌, ◌++◌, append_assoc, append-nil}
use Prim.Native.Nat.{ℕ, zero, suc, ◌+◌, ◌-◌, ◌*◌, ◌/◌, ◌%◌, ◌<◌, ◌≤◌}
use native.Mathlib.Omega.{arith}
use lib.ListN.{length, get_or, set, replicate, length-append, length-set, length-replicate, get_or-append}
use lib.Seq.{set-append_seam, set-append_left, get_or-set_same, get_or-set_other}
use borrow.Author.Tests.{lt-ltb}
use Rattle.sink.specs.Machine.{State, state_of, with_tree, with_list, with_keys_of, low, high, wide_in, set_wide, put_tree, put_list, put_keys, put_entry, all_tree, all_list_of, all_keys}
use Rattle.sink.specs.Shown.{filled}
use Rattle.sink.specs.declared.Sink.{Sink}

-- a case on a test that keeps its equation
pub by_test : {A : Type 0} (b : Bool) → (b ≡ true → A) → (b ≡ false → A) → A
by_test true f g = f refl
by_test false f g = g refl

-- names that are not alike are not so either way round
pub unlike_sym : {A : Type 0} (alike : A → A → Bool) → ((a b : A) → alike a b ≡ true → a ≡ b) → ((a : A) → alike a a ≡ true) → (a b : A) → alike a b ≡ false → alike b a ≡ false
unlike_sym {A} alike same self a b h =
    by_test (alike b a)
    (λ t. absurd (let e : alike a b ≡ true = ap (λ (x : A). alike x b) (sym (same b a t)) ∙ self b in let z : ◌≡◌ {A = Bool} true false = sym e ∙ h in let y : ◌≡◌ {A = ℕ} 0 1 = cc in omega arith))
    (λ t. t)

-- ---- a slice that begins with some bytes, then zeros

pub filled_none : (n : ℕ) → replicate n 0 ≡ filled n []
unfolding filled
filled_none n = let e : n ≡ n - 0 = omega arith in ap (λ (k : ℕ). replicate k 0) e

pub length_filled : (n : ℕ) (bs : List ℕ) → length bs ≤ n → length (filled n bs) ≡ n
unfolding filled
length_filled n bs h = length-append bs (replicate (n - length bs) 0) ∙ ap (λ (k : ℕ). length bs + k) (length-replicate (n - length bs) 0) ∙ omega arith

pub filled_put : (n : ℕ) (bs : List ℕ) (b : ℕ) → length bs < n → set (filled n bs) (length bs) b ≡ filled n (bs ++ (b ∷ []))
unfolding filled
filled_put n bs b h =
    let e : n - length bs ≡ suc (n - length (bs ++ (b ∷ []))) = omega (arith, length-append bs (b ∷ [])) in
    ap (λ (k : ℕ). set (bs ++ replicate k 0) (length bs) b) e
    ∙ set-append_seam bs 0 (replicate (n - length (bs ++ (b ∷ []))) 0) b
    ∙ sym (append_assoc bs (b ∷ []) (replicate (n - length (bs ++ (b ∷ []))) 0))

pub filled_set : (n : ℕ) (bs : List ℕ) (i b : ℕ) → i < length bs → set (filled n bs) i b ≡ filled n (set bs i b)
unfolding filled
filled_set n bs i b h =
    set-append_left bs (replicate (n - length bs) 0) i b h ∙ ap (λ (k : ℕ). set bs i b ++ replicate (n - k) 0) (sym (length-set bs i b))

pub filled_wide : (n : ℕ) (bs : List ℕ) (i v : ℕ) → i + 1 < length bs → set_wide (filled n bs) i v ≡ filled n (set_wide bs i v)
unfolding set_wide
filled_wide n bs i v h =
    ap (λ (l : List ℕ). set l (i + 1) (high v)) (filled_set n bs i (low v) (omega arith))
    ∙ filled_set n (set bs i (low v)) (i + 1) (high v) (omega (arith, length-set bs i (low v)))

-- ---- two lists, one after the other

pub set_right : (cs ys : List ℕ) (i n b : ℕ) → length cs ≡ n → set (cs ++ ys) (n + i) b ≡ cs ++ set ys i b
set_right [] ys i n b e = let z : n + i ≡ i = omega arith in ap (λ (k : ℕ). set ys k b) z
set_right (c ∷ cs) ys i zero b e = absurd (omega arith)
set_right (c ∷ cs) ys i (suc n) b e =
    let z : suc n + i ≡ suc (n + i) = omega arith in
    ap (λ (k : ℕ). set (c ∷ (cs ++ ys)) k b) z ∙ ap (λ (l : List ℕ). c ∷ l) (set_right cs ys i n b (omega arith))

pub wide_right : (cs ys : List ℕ) (i n v : ℕ) → length cs ≡ n → set_wide (cs ++ ys) (n + i) v ≡ cs ++ set_wide ys i v
unfolding set_wide
wide_right cs ys i n v e =
    let z : n + i + 1 ≡ n + (i + 1) = omega arith in
    ap (λ (l : List ℕ). set l (n + i + 1) (high v)) (set_right cs ys i n (low v) e)
    ∙ ap (λ (k : ℕ). set (cs ++ set ys i (low v)) k (high v)) z
    ∙ set_right cs (set ys i (low v)) (i + 1) n (high v) e

pub wide_left : (cs ys : List ℕ) (i v : ℕ) → i + 1 < length cs → set_wide (cs ++ ys) i v ≡ set_wide cs i v ++ ys
unfolding set_wide
wide_left cs ys i v h =
    ap (λ (l : List ℕ). set l (i + 1) (high v)) (set-append_left cs ys i (low v) (omega arith))
    ∙ set-append_left (set cs i (low v)) ys (i + 1) (high v) (omega (arith, length-set cs i (low v)))

pub read_left : (cs ys : List ℕ) (i : ℕ) → i + 1 < length cs → wide_in (cs ++ ys) i ≡ wide_in cs i
unfolding wide_in
read_left cs ys i h =
    let p : get_or (cs ++ ys) i 0 ≡ get_or cs i 0 = get_or-append cs ys 0 i (omega arith) in
    let q : get_or (cs ++ ys) (i + 1) 0 ≡ get_or cs (i + 1) 0 = get_or-append cs ys 0 (i + 1) h in
    omega arith

pub length_wide : (l : List ℕ) (i v : ℕ) → length (set_wide l i v) ≡ length l
unfolding set_wide
length_wide l i v = length-set (set l i (low v)) (i + 1) (high v) ∙ length-set l i (low v)

-- what is written is read again, and nothing else changes
pub read_same : (l : List ℕ) (i v : ℕ) → v < 65536 → i + 1 < length l → wide_in (set_wide l i v) i ≡ v
unfolding wide_in set_wide low high
read_same l i v h k =
    let p : get_or (set (set l i (v % 256)) (i + 1) (v / 256 % 256)) i 0 ≡ v % 256
    = get_or-set_other (set l i (v % 256)) (i + 1) i (v / 256 % 256) 0 (λ e. omega arith) ∙ get_or-set_same l i (v % 256) 0 (omega arith) in
    let q : get_or (set (set l i (v % 256)) (i + 1) (v / 256 % 256)) (i + 1) 0 ≡ v / 256 % 256
    = get_or-set_same (set l i (v % 256)) (i + 1) (v / 256 % 256) 0 (omega (arith, length-set l i (v % 256))) in
    omega arith

pub read_other : (l : List ℕ) (c d v : ℕ) → (d ≡ c → ⊥) → wide_in (set_wide l (2 * c) v) (2 * d) ≡ wide_in l (2 * d)
unfolding wide_in set_wide
read_other l c d v h =
    let p : get_or (set (set l (2 * c) (low v)) (2 * c + 1) (high v)) (2 * d) 0 ≡ get_or l (2 * d) 0
    = get_or-set_other (set l (2 * c) (low v)) (2 * c + 1) (2 * d) (high v) 0 (λ e. omega arith) ∙ get_or-set_other l (2 * c) (2 * d) (low v) 0 (λ e. h (omega arith)) in
    let q : get_or (set (set l (2 * c) (low v)) (2 * c + 1) (high v)) (2 * d + 1) 0 ≡ get_or l (2 * d + 1) 0
    = get_or-set_other (set l (2 * c) (low v)) (2 * c + 1) (2 * d + 1) (high v) 0 (λ e. h (omega arith)) ∙ get_or-set_other l (2 * c) (2 * d + 1) (low v) 0 (λ e. omega arith) in
    omega arith

-- ---- runs of bytes within the limits

tree_one : (a : ℕ) (bs l w : List ℕ) (k : Sink) (b : ℕ) → k.tree ≡ length bs → length bs < 32768 → length bs < a
    → put_tree (state_of (filled a bs) l w k) b ≡ state_of (filled a (bs ++ (b ∷ []))) l w (with_tree k (length (bs ++ (b ∷ []))))
unfolding put_tree
tree_one a bs l w k b e h g =
    let n : k.tree + 1 ≡ length (bs ++ (b ∷ [])) = omega (arith, length-append bs (b ∷ [])) in
    let o : set (filled a bs) k.tree b ≡ filled a (bs ++ (b ∷ [])) = ap (λ (i : ℕ). set (filled a bs) i b) e ∙ filled_put a bs b g in
    rw (lt-ltb k.tree 32768 (omega arith)) (λ j. state_of ((o) j) l w (with_tree k ((n) j)))

pub tree_all : (cs : List ℕ) (a : ℕ) (bs l w : List ℕ) (k : Sink) → k.tree ≡ length bs → length bs + length cs ≤ 32768 → length bs + length cs ≤ a
    → all_tree (state_of (filled a bs) l w k) cs ≡ state_of (filled a (bs ++ cs)) l w (with_tree k (length (bs ++ cs)))
unfolding all_tree
tree_all [] a bs l w k e h g =
    λ j. state_of (filled a ((sym (append-nil bs)) j)) l w (with_tree k ((e ∙ ap length (sym (append-nil bs))) j))
tree_all (c ∷ cs) a bs l w k e h g =
    ap (λ (s : State). all_tree s cs) (tree_one a bs l w k c e (omega arith) (omega arith))
    ∙ tree_all cs a (bs ++ (c ∷ [])) l w (with_tree k (length (bs ++ (c ∷ [])))) refl (omega (arith, length-append bs (c ∷ []))) (omega (arith, length-append bs (c ∷ [])))
    ∙ ap (λ (x : List ℕ). state_of (filled a x) l w (with_tree k (length x))) (append_assoc bs (c ∷ []) cs)

list_one : (a : ℕ) (bs t w : List ℕ) (k : Sink) (b : ℕ) → k.list ≡ length bs → length bs < 16384 → length bs < a
    → put_list (state_of t (filled a bs) w k) b ≡ state_of t (filled a (bs ++ (b ∷ []))) w (with_list k (length (bs ++ (b ∷ []))))
unfolding put_list
list_one a bs t w k b e h g =
    let n : k.list + 1 ≡ length (bs ++ (b ∷ [])) = omega (arith, length-append bs (b ∷ [])) in
    let o : set (filled a bs) k.list b ≡ filled a (bs ++ (b ∷ [])) = ap (λ (i : ℕ). set (filled a bs) i b) e ∙ filled_put a bs b g in
    rw (lt-ltb k.list 16384 (omega arith)) (λ j. state_of t ((o) j) w (with_list k ((n) j)))

pub list_all : (cs : List ℕ) (a : ℕ) (bs t w : List ℕ) (k : Sink) → k.list ≡ length bs → length bs + length cs ≤ 16384 → length bs + length cs ≤ a
    → all_list_of (state_of t (filled a bs) w k) cs ≡ state_of t (filled a (bs ++ cs)) w (with_list k (length (bs ++ cs)))
unfolding all_list_of
list_all [] a bs t w k e h g =
    λ j. state_of t (filled a ((sym (append-nil bs)) j)) w (with_list k ((e ∙ ap length (sym (append-nil bs))) j))
list_all (c ∷ cs) a bs t w k e h g =
    ap (λ (s : State). all_list_of s cs) (list_one a bs t w k c e (omega arith) (omega arith))
    ∙ list_all cs a (bs ++ (c ∷ [])) t w (with_list k (length (bs ++ (c ∷ [])))) refl (omega (arith, length-append bs (c ∷ []))) (omega (arith, length-append bs (c ∷ [])))
    ∙ ap (λ (x : List ℕ). state_of t (filled a x) w (with_list k (length x))) (append_assoc bs (c ∷ []) cs)

keys_one : (ds : List ℕ) (a : ℕ) (bs t l : List ℕ) (k : Sink) (b : ℕ) → length ds ≡ 32768 → k.keys ≡ length bs → length bs < 16384 → length bs < a
    → put_keys (state_of t l (ds ++ filled a bs) k) b ≡ state_of t l (ds ++ filled a (bs ++ (b ∷ []))) (with_keys_of k (length (bs ++ (b ∷ []))))
unfolding put_keys
keys_one ds a bs t l k b d e h g =
    let n : k.keys + 1 ≡ length (bs ++ (b ∷ [])) = omega (arith, length-append bs (b ∷ [])) in
    let o : set (ds ++ filled a bs) (32768 + k.keys) b ≡ ds ++ filled a (bs ++ (b ∷ []))
    = set_right ds (filled a bs) k.keys 32768 b d ∙ ap (λ (i : ℕ). ds ++ set (filled a bs) i b) e ∙ ap (λ (x : List ℕ). ds ++ x) (filled_put a bs b g) in
    rw (lt-ltb k.keys 16384 (omega arith)) (λ j. state_of t l ((o) j) (with_keys_of k ((n) j)))

pub keys_all : (cs ds : List ℕ) (a : ℕ) (bs t l : List ℕ) (k : Sink) → length ds ≡ 32768 → k.keys ≡ length bs → length bs + length cs ≤ 16384 → length bs + length cs ≤ a
    → all_keys (state_of t l (ds ++ filled a bs) k) cs ≡ state_of t l (ds ++ filled a (bs ++ cs)) (with_keys_of k (length (bs ++ cs)))
unfolding all_keys
keys_all [] ds a bs t l k d e h g =
    λ j. state_of t l (ds ++ filled a ((sym (append-nil bs)) j)) (with_keys_of k ((e ∙ ap length (sym (append-nil bs))) j))
keys_all (c ∷ cs) ds a bs t l k d e h g =
    ap (λ (s : State). all_keys s cs) (keys_one ds a bs t l k c d e (omega arith) (omega arith))
    ∙ keys_all cs ds a (bs ++ (c ∷ [])) t l (with_keys_of k (length (bs ++ (c ∷ [])))) d refl (omega (arith, length-append bs (c ∷ []))) (omega (arith, length-append bs (c ∷ [])))
    ∙ ap (λ (x : List ℕ). state_of t l (ds ++ filled a x) (with_keys_of k (length x))) (append_assoc bs (c ∷ []) cs)

-- the head of an entry
filled_two : (n : ℕ) (bs : List ℕ) (v : ℕ) → length bs + 1 < n → set_wide (filled n bs) (length bs) v ≡ filled n (bs ++ (low v ∷ high v ∷ []))
unfolding set_wide
filled_two n bs v h =
    let k : length bs + 1 ≡ length (bs ++ (low v ∷ [])) = sym (length-append bs (low v ∷ [])) in
    ap (λ (l : List ℕ). set l (length bs + 1) (high v)) (filled_put n bs (low v) (omega arith))
    ∙ ap (λ (i : ℕ). set (filled n (bs ++ (low v ∷ []))) i (high v)) k
    ∙ filled_put n (bs ++ (low v ∷ [])) (high v) (omega arith)
    ∙ ap (filled n) (append_assoc bs (low v ∷ []) (high v ∷ []))

pub entry_all : (a : ℕ) (bs t w : List ℕ) (k : Sink) (m n : ℕ) → k.list ≡ length bs → length bs + 4 ≤ 16384 → length bs + 4 ≤ a
    → put_entry (state_of t (filled a bs) w k) m n ≡ state_of t (filled a (bs ++ (low m ∷ high m ∷ low n ∷ high n ∷ []))) w (with_list k (length bs + 4))
unfolding put_entry
entry_all a bs t w k m n e h g =
    let two : List ℕ = bs ++ (low m ∷ high m ∷ []) in
    let z : k.list + 2 ≡ length two = omega (arith, length-append bs (low m ∷ high m ∷ [])) in
    let y : k.list + 4 ≡ length bs + 4 = omega arith in
    let p : set_wide (filled a bs) k.list m ≡ filled a two = ap (λ (i : ℕ). set_wide (filled a bs) i m) e ∙ filled_two a bs m (omega arith) in
    let q : set_wide (set_wide (filled a bs) k.list m) (k.list + 2) n ≡ filled a (bs ++ (low m ∷ high m ∷ low n ∷ high n ∷ []))
    = ap (λ (l : List ℕ). set_wide l (k.list + 2) n) p ∙ ap (λ (i : ℕ). set_wide (filled a two) i n) z ∙ filled_two a two n (omega arith)
    ∙ ap (filled a) (append_assoc bs (low m ∷ high m ∷ []) (low n ∷ high n ∷ [])) in
    rw (lt-ltb k.list 16381 (omega arith)) (λ j. state_of t ((q) j) w (with_list k ((y) j)))
