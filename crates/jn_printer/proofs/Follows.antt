-- What the tests on what follows a word say of characters.
use Rattle.std.proofs.Common.{◌≡◌, ℕ, ◌<◌, Bool, true, false, not, ◌||◌, ◌&&◌, ◌==◌, List, [], ◌∷◌, ◌++◌, encode_utf8, encode_utf8_all, refl, sym, ap, subst, ◌∙◌, append_assoc, arith}
use Rattle.std.proofs.lemmas.Bool.Decides.{nat_tests}
use Rattle.std.proofs.lemmas.Str.{char_from_byte}
use Rattle.std.specs.Char.{is_ascii_digit, is_ascii_alphabetic, is_ascii_alphanumeric}
use Rattle.unicode_ident.proofs.IdentLemmas.{is_xid_start-ascii, is_xid_continue-ascii}
use Rattle.jn_base.specs.declared.tree.Name.{Name}
use Rattle.jn_base.specs.declared.tree.Text.{Text}
use Rattle.jn_base.specs.Tokens.{underscore, begins_name, continues_name}
use Rattle.jn_printer.specs.Pieces.{name_text}
use Rattle.jn_printer.proofs.Written.{ends_word, goes_on, breaks, calm, GivenName}

pub or_elim : (P : Type 0) (a b : Bool) → (a || b) ≡ true → (a ≡ true → P) → (b ≡ true → P) → P
or_elim P true b h f g = f refl
or_elim P false b h f g = g h

pub and_left : (a b : Bool) → (a && b) ≡ true → a ≡ true
and_left true b h = refl
and_left false b h = h

pub and_right : (a b : Bool) → (a && b) ≡ true → b ≡ true
and_right true b h = h
and_right false b h = absurd (cc)

pub no_name_at : (c : ℕ) → c < 128 → is_ascii_alphabetic c ≡ false → (c == underscore) ≡ false → begins_name c ≡ false
no_name_at c h a u = ap (λ (t : Bool). t || c == underscore) (is_xid_start-ascii c h ∙ a) ∙ u

pub no_more_at : (c : ℕ) → c < 128 → (is_ascii_alphanumeric c || (c == 95)) ≡ false → continues_name c ≡ false
no_more_at c h a = is_xid_continue-ascii c h ∙ a

ends_small : (c : ℕ) → ends_word c ≡ true → c < 128
ends_small c e = grind (arith, nat_tests)

ends_no_letter : (c : ℕ) → ends_word c ≡ true → (is_ascii_alphanumeric c || (c == 95)) ≡ false
ends_no_letter c e = grind (arith, nat_tests)

pub ends_no_name : (c : ℕ) → ends_word c ≡ true → continues_name c ≡ false
ends_no_name c e = no_more_at c (ends_small c e) (ends_no_letter c e)

pub ends_no_digit : (c : ℕ) → ends_word c ≡ true → is_ascii_digit c ≡ false
ends_no_digit c e = grind (arith, nat_tests)

ends_calm : (c : ℕ) → ends_word c ≡ true → not (goes_on c) ≡ true
ends_calm c e = grind (arith, nat_tests)

pub breaks_calm : (t : List ℕ) → breaks t ≡ true → calm t ≡ true
breaks_calm [] b = refl
breaks_calm (c ∷ t) b = ends_calm c b

goes_small : (c : ℕ) → goes_on c ≡ true → c < 128
goes_small c e = grind (arith, nat_tests)

goes_no_letter : (c : ℕ) → goes_on c ≡ true → is_ascii_alphabetic c ≡ false
goes_no_letter c e = grind (arith, nat_tests)

goes_no_underscore : (c : ℕ) → goes_on c ≡ true → (c == underscore) ≡ false
goes_no_underscore c e = grind (arith, nat_tests)

goes_no_name : (c : ℕ) → goes_on c ≡ true → begins_name c ≡ false
goes_no_name c e = no_name_at c (goes_small c e) (goes_no_letter c e) (goes_no_underscore c e)

by_bool : {P : Type 0} (b : Bool) → (b ≡ true → P) → (b ≡ false → P) → P
by_bool true f g = f refl
by_bool false f g = g refl

-- the first byte of a name is calm
byte_calm : (c b : ℕ) (bs rest : List ℕ) → b ∷ bs ≡ encode_utf8 c ++ rest → begins_name c ≡ true → not (goes_on b) ≡ true
byte_calm c b bs rest e h = by_bool (goes_on b) (λ g. absurd (no g)) (λ g. ap (λ (x : Bool). not x) g) where
  no : goes_on b ≡ true → ⊥
  no g =
      let same : c ≡ b = char_from_byte (b ∷ bs) rest c e (goes_small b g) (omega arith) in
      let never : begins_name b ≡ false = goes_no_name b g in
      let always : begins_name b ≡ true = subst (λ x. begins_name x ≡ true) same h in
      cc

front_calm : (c : ℕ) (xs rest : List ℕ) → xs ≡ encode_utf8 c ++ rest → begins_name c ≡ true → calm xs ≡ true
front_calm c [] rest e h = refl
front_calm c (b ∷ bs) rest e h = byte_calm c b bs rest e h

pub name_calm : (names : List Text) (x : Name) → GivenName names x → (t : List ℕ) → calm (name_text names x ++ t) ≡ true
name_calm names x g t =
    subst (λ (xs : List ℕ). calm (xs ++ t) ≡ true) g.spelled
    (front_calm g.first _ (encode_utf8_all g.others ++ t) (append_assoc (encode_utf8 g.first) (encode_utf8_all g.others) t) g.begins)

pub name_calm_on : (names : List Text) (x : Name) → GivenName names x → (t u : List ℕ) → calm ((name_text names x ++ t) ++ u) ≡ true
name_calm_on names x g t u = subst (λ (xs : List ℕ). calm xs ≡ true) (sym (append_assoc (name_text names x) t u)) (name_calm names x g (t ++ u))
