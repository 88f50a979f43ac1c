-- The pass over the words with a set of the masks' names is that of the grammar.
use Rattle.std.proofs.Common.{◌≡◌, ℕ, suc, Bool, true, false, not, ◌||◌, ◌&&◌, List, [], ◌∷◌, ◌++◌, length, Option, Some, None, refl, sym, ◌∙◌, ap, subst, arith, length-append, eqb, if◌then◌else◌}
use Rattle.std.specs.Prelude.{nat_eq, nat_le}
use Rattle.std.specs.Set.{is_member}
use Rattle.std.proofs.Math.Bool.{or_assoc}
use Rattle.std.proofs.lemmas.Bool.Decides.{Decides-eqb}
use Rattle.jn_base.specs.declared.refusal.Limit.{Limit}
use Rattle.jn_base.specs.declared.refusal.Limit.TheVariants.{Masks}
use Rattle.jn_base.specs.declared.word.Word.TheVariants as word
use Rattle.jn_base.specs.declared.word.Mark.TheVariants.{Backslash}
use Rattle.jn_base.specs.declared.word.Lexeme.{Lexeme}
use Rattle.jn_base.specs.Words.{name_number}
use Rattle.jn_grammar.specs.Begins.{is_word, begins}
use Rattle.jn_grammar.specs.TokenLimits.{Seen, nothing_seen, has, passes_names, shows, masks_with, after_word, limit_or, limits_from, token_limit}
use Rattle.jn_parser.specs.Noted.{noted, shown_by}

-- the same names, as many
pub record AreNoted (ms ks : List ℕ) : Type 0 where
  pub has_same : (q : ℕ) → has ms q ≡ is_member nat_eq ks q
  pub count : length ms ≡ length ks

eqb_sym : (a b : ℕ) → eqb a b ≡ nat_eq b a
eqb_sym a b = by_tests (eqb a b) (nat_eq b a) refl refl
  where
    by_tests : (x y : Bool) → eqb a b ≡ x → nat_eq b a ≡ y → x ≡ y
    by_tests true true e f = refl
    by_tests true false e f = let same : a ≡ b = (Decides-eqb a b).0 e in let again : nat_eq b a ≡ true = (Decides-eqb b a).1 (sym same) in cc
    by_tests false true e f = let same : b ≡ a = (Decides-eqb b a).0 f in let again : eqb a b ≡ true = (Decides-eqb a b).1 (sym same) in cc
    by_tests false false e f = refl

member_push : (xs : List ℕ) (n q : ℕ) → is_member nat_eq (xs ++ n ∷ []) q ≡ (is_member nat_eq xs q || (nat_eq q n || false))
member_push [] n q = refl
member_push (x ∷ xs) n q = ap (λ (b : Bool). nat_eq q x || b) (member_push xs n q) ∙ sym (or_assoc (nat_eq q x) (is_member nat_eq xs q) (nat_eq q n || false))

if_or : (a b : Bool) → (if a then true else b) ≡ (b || (a || false))
if_or true true = refl
if_or true false = refl
if_or false true = refl
if_or false false = refl

pub noted_more : (ms ks : List ℕ) (is_mask : Bool) (o : Option ℕ) → AreNoted ms ks → AreNoted (masks_with is_mask o ms) (noted is_mask o ks)
noted_more ms ks true (Some n) a = by_test (is_member nat_eq ks n) refl
  where
    by_test : (b : Bool) → is_member nat_eq ks n ≡ b → AreNoted (if has ms n then ms else n ∷ ms) (if is_member nat_eq ks n then ks else ks ++ n ∷ [])
    by_test true e = subst (λ (b : Bool). AreNoted (if b then ms else n ∷ ms) (if is_member nat_eq ks n then ks else ks ++ n ∷ [])) (sym (a.has_same n ∙ e))
        (subst (λ (b : Bool). AreNoted ms (if b then ks else ks ++ n ∷ [])) (sym e) a)
    by_test false e = subst (λ (b : Bool). AreNoted (if b then ms else n ∷ ms) (if is_member nat_eq ks n then ks else ks ++ n ∷ [])) (sym (a.has_same n ∙ e))
        (subst (λ (b : Bool). AreNoted (n ∷ ms) (if b then ks else ks ++ n ∷ [])) (sym e)
        (record {
          has_same = λ q. ap (λ (b : Bool). if b then true else has ms q) (eqb_sym n q) ∙ ap (λ (b : Bool). if nat_eq q n then true else b) (a.has_same q) ∙ if_or (nat_eq q n) (is_member nat_eq ks q) ∙ sym (member_push ks n q);
          count = omega (arith, a.count, length-append ks (n ∷ []));
        }))
noted_more ms ks true None a = a
noted_more ms ks false o a = a

pub shows_is : (s : Seen) (ks : List ℕ) (o : Option ℕ) → AreNoted s.masks ks → shows s o ≡ shown_by ks s.behind o
shows_is s ks None a = refl
shows_is s ks (Some n) a =
    ap (λ (b : Bool). if s.behind && (not b && nat_le 256 (length s.masks)) then Some Masks else passes_names n) (a.has_same n)
    ∙ ap (λ (c : ℕ). if s.behind && (not (is_member nat_eq ks n) && nat_le 256 c) then Some Masks else passes_names n) a.count

-- What the loop keeps: what is seen of the words so far, and what the pass over the others gives.
pub record Passing (ks : List ℕ) (is_mask : Bool) (rest whole : List Lexeme) : Type 0 where
  pub seen : Seen
  pub masks : AreNoted seen.masks ks
  pub behind : seen.behind ≡ is_mask
  pub gives : limits_from rest seen ≡ token_limit whole

pub passing_starts : (ws : List Lexeme) → Passing [] false ws ws
passing_starts ws = record { seen = nothing_seen; masks = record { has_same = λ q. refl; count = refl }; behind = refl; gives = refl }

passing_stops : (ks : List ℕ) (is_mask : Bool) (t : Lexeme) (rest whole : List Lexeme) (l : Limit) → Passing ks is_mask (t ∷ rest) whole → shown_by ks is_mask (name_number t.word) ≡ Some l
    → Some (l, suc (length rest)) ≡ token_limit whole
unfolding limits_from
passing_stops ks is_mask t rest whole l p e =
    let shown : shows p.seen (name_number t.word) ≡ Some l = shows_is p.seen ks (name_number t.word) p.masks ∙ ap (λ (b : Bool). shown_by ks b (name_number t.word)) p.behind ∙ e in
    sym (ap (λ o. limit_or o (suc (length rest)) (limits_from rest (after_word p.seen t.word))) shown) ∙ p.gives

passing_goes : (ks more : List ℕ) (is_mask after : Bool) (t : Lexeme) (rest whole : List Lexeme) → Passing ks is_mask (t ∷ rest) whole → shown_by ks is_mask (name_number t.word) ≡ None
    → more ≡ noted is_mask (name_number t.word) ks → after ≡ is_word (word.Mark Backslash) t.word → Passing more after rest whole
unfolding limits_from
passing_goes ks more is_mask after t rest whole p e m a =
    let shown : shows p.seen (name_number t.word) ≡ None = shows_is p.seen ks (name_number t.word) p.masks ∙ ap (λ (b : Bool). shown_by ks b (name_number t.word)) p.behind ∙ e in
    record {
      seen = after_word p.seen t.word;
      masks = subst (λ (xs : List ℕ). AreNoted (masks_with p.seen.behind (name_number t.word) p.seen.masks) xs) (ap (λ (b : Bool). noted b (name_number t.word) ks) p.behind ∙ sym m)
          (noted_more p.seen.masks ks p.seen.behind (name_number t.word) p.masks);
      behind = sym a;
      gives = sym (ap (λ o. limit_or o (suc (length rest)) (limits_from rest (after_word p.seen t.word))) shown) ∙ p.gives;
    }

pub passing_ends : (ks : List ℕ) (is_mask : Bool) (rest whole : List Lexeme) → Passing ks is_mask rest whole → rest ≡ [] → None ≡ token_limit whole
unfolding limits_from
passing_ends ks is_mask rest whole p e = ap (λ (us : List Lexeme). limits_from us p.seen) (sym e) ∙ p.gives

-- ... where the words left are this one and those behind it
pub stops_at : (ks : List ℕ) (is_mask : Bool) (now whole : List Lexeme) (t : Lexeme) (rest : List Lexeme) (l : Limit) → now ≡ t ∷ rest → Passing ks is_mask now whole → shown_by ks is_mask (name_number t.word) ≡ Some l
    → Some (l, length now) ≡ token_limit whole
stops_at ks is_mask now whole t rest l e p s = ap (λ (us : List Lexeme). Some (l, length us)) e ∙ passing_stops ks is_mask t rest whole l (subst (λ (us : List Lexeme). Passing ks is_mask us whole) e p) s

pub goes_behind : (ks more : List ℕ) (is_mask after : Bool) (now whole : List Lexeme) (t : Lexeme) (rest : List Lexeme) → now ≡ t ∷ rest → Passing ks is_mask now whole → shown_by ks is_mask (name_number t.word) ≡ None
    → more ≡ noted is_mask (name_number t.word) ks → after ≡ begins (word.Mark Backslash) now → Passing more after rest whole
goes_behind ks more is_mask after now whole t rest e p s m a =
    passing_goes ks more is_mask after t rest whole (subst (λ (us : List Lexeme). Passing ks is_mask us whole) e p) s m (a ∙ ap (λ (us : List Lexeme). begins (word.Mark Backslash) us) e)
