-- Which characters pass which tests.
use Rattle.std.proofs.Common.{◌≡◌, ℕ, ◌<◌, Bool, true, false, refl, sym, ◌∙◌, ap, subst, arith, ◌||◌, ◌==◌, if◌then◌else◌}
use Rattle.std.proofs.lemmas.Bool.{eqb-true}
use Rattle.std.proofs.lemmas.Bool.Decides.{nat_tests}
use Rattle.std.specs.Char.{is_ascii_digit, is_ascii_alphabetic}
use Rattle.unicode_ident.proofs.IdentLemmas.{is_xid_start-ascii}
use Rattle.jn_base.specs.Tokens.{quote, underscore, space, tab, line_feed, carriage_return, is_blank, begins_name, ends_line}

pub if_true : {A : Type 0} (b : Bool) (x y : A) → b ≡ true → (if b then x else y) ≡ x
if_true b x y h = ap (λ (t : Bool). if t then x else y) h

pub if_false : {A : Type 0} (b : Bool) (x y : A) → b ≡ false → (if b then x else y) ≡ y
if_false b x y h = ap (λ (t : Bool). if t then x else y) h

pub or_elim : (P : Type 0) (a b : Bool) → (a || b) ≡ true → (a ≡ true → P) → (b ≡ true → P) → P
or_elim P true b h f g = f refl
or_elim P false b h f g = g h

-- what one test passes, the other fails
pub not_both : (a b : Bool) → (a ≡ true → b ≡ false) → b ≡ true → a ≡ false
not_both true b f h = absurd (let e : b ≡ false = f refl in cc)
not_both false b f h = refl

pub no_name_at : (c : ℕ) → c < 128 → is_ascii_alphabetic c ≡ false → (c == underscore) ≡ false → begins_name c ≡ false
no_name_at c h a u = ap (λ (t : Bool). t || c == underscore) (is_xid_start-ascii c h ∙ a) ∙ u

-- white space begins no name
blank_no_name : (c : ℕ) → is_blank c ≡ true → begins_name c ≡ false
blank_no_name c b = or_elim (begins_name c ≡ false) _ _ b (λ b. or_elim (begins_name c ≡ false) _ _ b (λ b. or_elim (begins_name c ≡ false) _ _ b (at space (no_name_at space (omega arith) refl refl)) (at tab (no_name_at tab (omega arith) refl refl))) (at line_feed (no_name_at line_feed (omega arith) refl refl))) (at carriage_return (no_name_at carriage_return (omega arith) refl refl))
  where
    at : (k : ℕ) → begins_name k ≡ false → (c == k) ≡ true → begins_name c ≡ false
    at k n e = subst (λ x. begins_name x ≡ false) (sym (eqb-true c k e)) n

pub name_no_blank : (c : ℕ) → begins_name c ≡ true → is_blank c ≡ false
name_no_blank c n = not_both _ _ (blank_no_name c) n

digit_small : (c : ℕ) → is_ascii_digit c ≡ true → c < 128
digit_small c d = grind (arith, nat_tests)

digit_no_letter : (c : ℕ) → is_ascii_digit c ≡ true → is_ascii_alphabetic c ≡ false
digit_no_letter c d = grind (arith, nat_tests)

digit_no_underscore : (c : ℕ) → is_ascii_digit c ≡ true → (c == underscore) ≡ false
digit_no_underscore c d = grind (arith, nat_tests)

pub digit_no_blank : (c : ℕ) → is_ascii_digit c ≡ true → is_blank c ≡ false
digit_no_blank c d = grind (arith, nat_tests)

pub digit_no_name : (c : ℕ) → is_ascii_digit c ≡ true → begins_name c ≡ false
digit_no_name c d = no_name_at c (digit_small c d) (digit_no_letter c d) (digit_no_underscore c d)

pub line_end_no_quote : (c : ℕ) → ends_line c ≡ true → (c == quote) ≡ false
line_end_no_quote c e = or_elim ((c == quote) ≡ false) _ _ e (at line_feed refl) (at carriage_return refl)
  where
    at : (k : ℕ) → (k == quote) ≡ false → (c == k) ≡ true → (c == quote) ≡ false
    at k n h = subst (λ x. (x == quote) ≡ false) (sym (eqb-true c k h)) n
