-- Two property names print alike exactly if their bytes are alike.
-- Assumes nothing.
use mathlib.Core.Path.{◌≡◌, refl, sym, ap, ◌∙◌}
use mathlib.Core.Bool.{Bool, true, false}
use mathlib.Core.List.{List, [], ◌∷◌, ◌++◌, append_assoc}
use Prim.Native.Nat.{ℕ, ◌+◌, ◌/◌, ◌%◌, ◌<◌}
use native.Mathlib.Omega.{arith}
use native.Mathlib.Decide.{dec_lt}
use lib.Dec.{ltb, eqb}
use borrow.Author.Tests.{lt-ltb, le-ltb, ltb-true, eqb-true}
use Rattle.printer.specs.Names.{may_begin, bare, hex_digit, needs_escape, escaped_byte, escaped, in_quotes}
use Rattle.printer.specs.Places.{member_name, key_name}

by_bool : {A : Type 0} (b : Bool) → (b ≡ true → A) → (b ≡ false → A) → A
by_bool true f g = f refl
by_bool false f g = g refl

head_same : (x y : ℕ) (a b : List ℕ) → x ∷ a ≡ y ∷ b → x ≡ y
head_same x y a b e = cc

tail_same : (x y : ℕ) (a b : List ℕ) → x ∷ a ≡ y ∷ b → a ≡ b
tail_same x y a b e = cc

quote_escapes : (c : ℕ) → c ≡ 34 → needs_escape c ≡ true
unfolding needs_escape
quote_escapes c e = rw e refl

slash_escapes : (c : ℕ) → c ≡ 92 → needs_escape c ≡ true
unfolding needs_escape
slash_escapes c e = rw e refl

escape_small : (c : ℕ) → needs_escape c ≡ true → c < 128
unfolding needs_escape
escape_small c e =
    by_bool (ltb c 32) (λ h. let l : c < 32 = ltb-true c 32 h in omega arith)
    (λ h. by_bool (eqb c 34) (λ g. let q : c ≡ 34 = eqb-true c 34 g in omega arith)
    (λ g. let z : eqb c 92 ≡ true = (rw (h, g) at e) in let q : c ≡ 92 = eqb-true c 92 z in omega arith))

hex_same : (x y : ℕ) → x < 16 → y < 16 → hex_digit x ≡ hex_digit y → x ≡ y
unfolding hex_digit
hex_same x y a b e = elim (dec_lt x 10) [
  | yes h ↦ elim (dec_lt y 10) [
    | yes g ↦ let z : 48 + x ≡ 48 + y = (rw (lt-ltb x 10 h, lt-ltb y 10 g) at e) in omega arith
    | no g ↦ let z : 48 + x ≡ 87 + y = (rw (lt-ltb x 10 h, le-ltb y 10 (omega arith)) at e) in omega arith
  ]
  | no h ↦ elim (dec_lt y 10) [
    | yes g ↦ let z : 87 + x ≡ 48 + y = (rw (le-ltb x 10 (omega arith), lt-ltb y 10 g) at e) in omega arith
    | no g ↦ let z : 87 + x ≡ 87 + y = (rw (le-ltb x 10 (omega arith), le-ltb y 10 (omega arith)) at e) in omega arith
  ]
]

false_true : {A : Type 0} → false ≡ true → A
false_true e = absurd (let z : ◌≡◌ {A = ℕ} 0 1 = cc in omega arith)

-- an escaped byte, what it begins with
escaped_yes : (c : ℕ) (r : List ℕ) → needs_escape c ≡ true → escaped_byte c ++ r ≡ 92 ∷ 120 ∷ hex_digit (c / 16) ∷ hex_digit (c % 16) ∷ r
unfolding escaped_byte
escaped_yes c r e = rw e refl

escaped_no : (c : ℕ) (r : List ℕ) → needs_escape c ≡ false → escaped_byte c ++ r ≡ c ∷ r
unfolding escaped_byte
escaped_no c r e = rw e refl

record Both (c d : ℕ) (a b : List ℕ) : Type 0 where
  first : c ≡ d
  rest : a ≡ b

byte_apart : (c d : ℕ) (a b : List ℕ) → escaped_byte c ++ a ≡ escaped_byte d ++ b → Both c d a b
byte_apart c d a b e =
    by_bool (needs_escape c)
    (λ h. by_bool (needs_escape d)
    (λ g.
    let w : 92 ∷ 120 ∷ hex_digit (c / 16) ∷ hex_digit (c % 16) ∷ a ≡ 92 ∷ 120 ∷ hex_digit (d / 16) ∷ hex_digit (d % 16) ∷ b = sym (escaped_yes c a h) ∙ e ∙ escaped_yes d b g in
    let p : hex_digit (c / 16) ≡ hex_digit (d / 16) = cc in
    let q : hex_digit (c % 16) ≡ hex_digit (d % 16) = cc in
    let r : a ≡ b = cc in
    let m : c < 128 = escape_small c h in
    let n : d < 128 = escape_small d g in
    let x : c / 16 ≡ d / 16 = hex_same (c / 16) (d / 16) (omega arith) (omega arith) p in
    let y : c % 16 ≡ d % 16 = hex_same (c % 16) (d % 16) (omega arith) (omega arith) q in
    record { first = omega arith; rest = r })
    (λ g.
    let w : 92 ∷ 120 ∷ hex_digit (c / 16) ∷ hex_digit (c % 16) ∷ a ≡ d ∷ b = sym (escaped_yes c a h) ∙ e ∙ escaped_no d b g in
    let z : d ≡ 92 = cc in
    false_true (sym g ∙ slash_escapes d z)))
    (λ h. by_bool (needs_escape d)
    (λ g.
    let w : c ∷ a ≡ 92 ∷ 120 ∷ hex_digit (d / 16) ∷ hex_digit (d % 16) ∷ b = sym (escaped_no c a h) ∙ e ∙ escaped_yes d b g in
    let z : c ≡ 92 = cc in
    false_true (sym h ∙ slash_escapes c z))
    (λ g.
    let w : c ∷ a ≡ d ∷ b = sym (escaped_no c a h) ∙ e ∙ escaped_no d b g in
    record { first = cc; rest = cc }))

not_quote : {A : Type 0} (c : ℕ) (a r : List ℕ) → 34 ∷ r ≡ escaped_byte c ++ a → A
not_quote c a r e =
    by_bool (needs_escape c)
    (λ h. let w : 34 ∷ r ≡ 92 ∷ 120 ∷ hex_digit (c / 16) ∷ hex_digit (c % 16) ∷ a = e ∙ escaped_yes c a h in let z : ◌≡◌ {A = ℕ} 34 92 = cc in absurd (omega arith))
    (λ h. let w : 34 ∷ r ≡ c ∷ a = e ∙ escaped_no c a h in let z : c ≡ 34 = cc in false_true (sym h ∙ quote_escapes c z))

append_over : (c : ℕ) (a r : List ℕ) → (escaped_byte c ++ a) ++ r ≡ escaped_byte c ++ (a ++ r)
append_over c a r = append_assoc (escaped_byte c) a r

escaped_apart : (a b r s : List ℕ) → escaped a ++ (34 ∷ r) ≡ escaped b ++ (34 ∷ s) → a ≡ b
unfolding escaped
escaped_apart [] [] r s e = refl
escaped_apart [] (d ∷ b) r s e = not_quote d (escaped b ++ (34 ∷ s)) r (e ∙ append_over d (escaped b) (34 ∷ s))
escaped_apart (c ∷ a) [] r s e = not_quote c (escaped a ++ (34 ∷ r)) s (sym e ∙ append_over c (escaped a) (34 ∷ r))
escaped_apart (c ∷ a) (d ∷ b) r s e =
    let w : Both c d (escaped a ++ (34 ∷ r)) (escaped b ++ (34 ∷ s)) = byte_apart c d (escaped a ++ (34 ∷ r)) (escaped b ++ (34 ∷ s)) (sym (append_over c (escaped a) (34 ∷ r)) ∙ e ∙ append_over d (escaped b) (34 ∷ s)) in
    ap (λ (x : ℕ). x ∷ a) w.first ∙ ap (λ (l : List ℕ). d ∷ l) (escaped_apart a b r s w.rest)

quotes_apart : (a b : List ℕ) → in_quotes a ≡ in_quotes b → a ≡ b
unfolding in_quotes
quotes_apart a b e = escaped_apart a b [] [] (tail_same 34 34 (escaped a ++ (34 ∷ [])) (escaped b ++ (34 ∷ [])) e)

begin_not : (c : ℕ) → c ≡ 34 → may_begin c ≡ false
unfolding may_begin
begin_not c e = rw e refl

-- a name that is left bare does not begin as a quote does
bare_not : {A : Type 0} (a b : List ℕ) → bare a ≡ true → a ≡ in_quotes b → A
unfolding bare in_quotes
bare_not [] b t e = false_true t
bare_not (c ∷ a) b t e = let z : c ≡ 34 = head_same c 34 a (escaped b ++ (34 ∷ [])) e in false_true (sym (rw (begin_not c z)) ∙ t)

-- a StaticKey's name
key_names_apart : (a b : List ℕ) → key_name a ≡ key_name b → a ≡ b
unfolding key_name
key_names_apart a b e =
    by_bool (bare a)
    (λ h. by_bool (bare b) (λ g. rw (h, g) at e) (λ g. bare_not a b h (rw (h, g) at e)))
    (λ h. by_bool (bare b) (λ g. bare_not b a g (sym (rw (h, g) at e))) (λ g. quotes_apart a b (rw (h, g) at e)))

dot_not : {A : Type 0} (a b : List ℕ) → 46 ∷ a ≡ 91 ∷ b → A
dot_not a b e = absurd (let z : ◌≡◌ {A = ℕ} 46 91 = cc in omega arith)

last_off : (a b : List ℕ) → a ++ (93 ∷ []) ≡ b ++ (93 ∷ []) → a ≡ b
last_off [] [] e = refl
last_off [] (y ∷ []) e = absurd (let z : ◌≡◌ {A = ℕ} 0 1 = cc in omega arith)
last_off [] (y ∷ z ∷ b) e = absurd (let z : ◌≡◌ {A = ℕ} 0 1 = cc in omega arith)
last_off (x ∷ []) [] e = absurd (let z : ◌≡◌ {A = ℕ} 0 1 = cc in omega arith)
last_off (x ∷ z ∷ a) [] e = absurd (let z : ◌≡◌ {A = ℕ} 0 1 = cc in omega arith)
last_off (x ∷ a) (y ∷ b) e =
    ap (λ (z : ℕ). z ∷ a) (head_same x y (a ++ (93 ∷ [])) (b ++ (93 ∷ [])) e)
    ∙ ap (λ (l : List ℕ). y ∷ l) (last_off a b (tail_same x y (a ++ (93 ∷ [])) (b ++ (93 ∷ [])) e))

-- a Member's name
member_names_apart : (a b : List ℕ) → member_name a ≡ member_name b → a ≡ b
unfolding member_name
member_names_apart a b e =
    by_bool (bare a)
    (λ h. by_bool (bare b) (λ g. tail_same 46 46 a b (rw (h, g) at e)) (λ g. dot_not a (in_quotes b ++ (93 ∷ [])) (rw (h, g) at e)))
    (λ h. by_bool (bare b) (λ g. dot_not b (in_quotes a ++ (93 ∷ [])) (sym (rw (h, g) at e)))
    (λ g. quotes_apart a b (last_off (in_quotes a) (in_quotes b) (tail_same 91 91 (in_quotes a ++ (93 ∷ [])) (in_quotes b ++ (93 ∷ [])) (rw (h, g) at e)))))

-- two property names print alike exactly if their bytes are alike
pub names_apart : (a b : List ℕ) → ((key_name a ≡ key_name b → a ≡ b) × (member_name a ≡ member_name b → a ≡ b)) × (a ≡ b → (key_name a ≡ key_name b) × (member_name a ≡ member_name b))
names_apart a b = ((key_names_apart a b, member_names_apart a b), λ e. (ap key_name e, ap member_name e))
