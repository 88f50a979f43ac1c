-- How a text is written word by word: its words stand where its bytes do, and no word melts into what follows.
use Rattle.std.proofs.Common.{◌≡◌, ℕ, suc, ◌+◌, ◌≤◌, Bool, true, false, not, ◌||◌, ◌==◌, List, [], ◌∷◌, ◌++◌, length, Some, None, ℤ, pos, slice_get, encode_utf8_all, refl, sym, subst, append_assoc, length-append, arith}
use Rattle.std.specs.Str.{all_scalars}
use Rattle.std.specs.Fmt.{signed_decimal}
use Rattle.std.specs.List.{AllPass}
use Rattle.jn_base.specs.declared.tree.Name.{Name}
use Rattle.jn_base.specs.declared.tree.Text.{Text}
use Rattle.jn_base.specs.declared.tree.Place.{Place}
use Rattle.jn_base.specs.declared.word.Keyword.{Keyword}
use Rattle.jn_base.specs.declared.word.Keyword.TheVariants as keyword
use Rattle.jn_base.specs.declared.word.Mark.{Mark}
use Rattle.jn_base.specs.declared.word.Mark.TheVariants as mark
use Rattle.jn_base.specs.declared.word.Word.{Word}
use Rattle.jn_base.specs.declared.word.Word.TheVariants as word
use Rattle.jn_base.specs.Tokens.{quote, carriage_return, is_blank, begins_name, continues_name, is_keyword, greatest_number}
use Rattle.jn_base.specs.Words.{keyword_text, mark_text, text}
use Rattle.jn_base.specs.Parts.{Part, Role, Plain, Atom, part, atom, key, name}
use Rattle.jn_base.specs.Parts
use Rattle.jn_base.specs.Spelling.{limit_of}
use Rattle.jn_printer.specs.StmtText.{escaped}
use Rattle.jn_printer.specs.Pieces.{name_text, bytes_of}

-- ---- what follows a word

-- a character that ends a name, a keyword and a number
abbrev pub ends_word : ℕ → Bool
ends_word c = c == 10 || c == 32 || c == 33 || c == 40 || c == 41 || c == 44 || c == 46 || c == 59 || c == 91 || c == 92 || c == 93

-- a character that is the second one of a mark or of what opens a comment
abbrev pub goes_on : ℕ → Bool
goes_on c = c == 61 || c == 62 || c == 38 || c == 47 || c == 42

abbrev pub breaks : List ℕ → Bool
breaks [] = true
breaks (c ∷ t) = ends_word c

abbrev pub calm : List ℕ → Bool
calm [] = true
calm (c ∷ t) = not (goes_on c)

-- ---- the words that can be written

-- the names and texts of a program, and where its bytes stand
pub record Setting : Type 0 where
  pub names : List Text
  pub texts : List Text
  pub at : ℕ → Place

pub record GivenName (names : List Text) (x : Name) : Type 0 where
  pub first : ℕ
  pub others : List ℕ
  pub begins : begins_name first ≡ true
  pub go_on : AllPass continues_name others
  pub no_keyword : is_keyword (first ∷ others) ≡ false
  pub scalars : all_scalars (first ∷ others) ≡ true
  pub spelled : encode_utf8_all (first ∷ others) ≡ name_text names x
  pub there : slice_get names x.0 ≡ Some (text (name_text names x))

pub record GivenText (texts : List Text) (n : ℕ) : Type 0 where
  pub characters : List ℕ
  pub scalars : all_scalars characters ≡ true
  pub no_return : AllPass (λ c. not (c == carriage_return)) characters
  pub spelled : encode_utf8_all characters ≡ bytes_of (slice_get texts n)
  pub there : slice_get texts n ≡ Some (text (bytes_of (slice_get texts n)))

pub record GivenNumber (v : ℤ) : Type 0 where
  pub value : ℕ
  pub is : v ≡ pos value
  pub fits : value ≤ greatest_number

-- what a source says of a word that stands in it
abbrev pub IsGiven : Setting → Word → Type 0
IsGiven s (word.Name x) = GivenName s.names x
IsGiven s (word.Number v) = GivenNumber v
IsGiven s (word.Text n) = GivenText s.texts n
IsGiven s (word.Keyword k) = Unit {0}
IsGiven s (word.Mark m) = Unit {0}
IsGiven s word.End = Unit {0}
IsGiven s word.Fault = Unit {0}

-- `Piece s x w t`: the bytes w before t are the word x
pub data Piece (s : Setting) : Word → List ℕ → List ℕ → Type 0 where
  a_name : {x : Name} {t : List ℕ} → GivenName s.names x → breaks t ≡ true → Piece s (word.Name x) (name_text s.names x) t
  a_keyword : (k : Keyword) {t : List ℕ} → breaks t ≡ true → Piece s (word.Keyword k) (keyword_text k) t
  a_number : (n : ℕ) {t : List ℕ} → n ≤ greatest_number → breaks t ≡ true → Piece s (word.Number (pos n)) (signed_decimal (pos n)) t
  a_text : (n : ℕ) {t : List ℕ} → GivenText s.texts n → Piece s (word.Text n) (quote ∷ (escaped (bytes_of (slice_get s.texts n)) ++ quote ∷ [])) t
  a_mark : (m : Mark) {t : List ℕ} → calm t ≡ true → Piece s (word.Mark m) (mark_text m) t

-- `Written s rest n t v`: the bytes t, the first at n, before rest are the words v with white space between
pub data Written (s : Setting) (rest : List ℕ) : ℕ → List ℕ → List Part → Type 0 where
  done : {n : ℕ} → Written s rest n [] []
  blank : {n c : ℕ} {t : List ℕ} {v : List Part} → is_blank c ≡ true → Written s rest (suc n) t v → Written s rest n (c ∷ t) v
  then_word : {n : ℕ} (w : List ℕ) {t : List ℕ} {x : Word} (r : Role) {v : List Part} → Piece s x w (t ++ rest)
      → Written s rest (n + length w) t v → Written s rest n (w ++ t) (part x (s.at n) r ∷ v)

pub written_append : {s : Setting} {rest : List ℕ} (u : List ℕ) (w : List Part) {n : ℕ} {t : List ℕ} {v : List Part}
    → Written s (u ++ rest) n t v → Written s rest (n + length t) u w → Written s rest n (t ++ u) (v ++ w)
written_append {s} {rest} u w {n = n} done e = let same : n + 0 ≡ n = omega arith in subst (λ (m : ℕ). Written s rest m u w) same e
written_append {s} {rest} u w {n = n} (blank {t = t} b d) e =
    let same : n + suc (length t) ≡ suc n + length t = omega arith in
    blank b (written_append u w d (subst (λ (m : ℕ). Written s rest m u w) same e))
written_append {s} {rest} u w {n = n} (then_word x {t = t} {x = y} r {v = v} p d) e =
    let same : n + length (x ++ t) ≡ (n + length x) + length t = omega (arith, length-append x t) in
    subst (λ (xs : List ℕ). Written s rest n xs (part y (s.at n) r ∷ (v ++ w))) (sym (append_assoc x t u))
    (then_word x r (subst (λ (xs : List ℕ). Piece s y x xs) (sym (append_assoc t u rest)) p)
    (written_append u w d (subst (λ (m : ℕ). Written s rest m u w) same e)))

pub written_atom : {s : Setting} {rest : List ℕ} {n : ℕ} {t : List ℕ} {v : List Part} (k : ℕ) → Written s rest n t v → Written s rest n t (atom k v)
written_atom k done = done
written_atom k (blank b d) = blank b (written_atom k d)
written_atom k (then_word x r p d) = then_word x (Atom k) p d

-- ---- words that differ in parentheses, braces and `else` alone

abbrev pub is_loose_mark : Mark → Bool
is_loose_mark mark.OpenParen = true
is_loose_mark mark.CloseParen = true
is_loose_mark mark.OpenBrace = true
is_loose_mark mark.CloseBrace = true
is_loose_mark m = false

abbrev pub is_loose_keyword : Keyword → Bool
is_loose_keyword keyword.Else = true
is_loose_keyword k = false

abbrev pub is_loose : Word → Bool
is_loose (word.Mark m) = is_loose_mark m
is_loose (word.Keyword k) = is_loose_keyword k
is_loose (word.Name x) = false
is_loose (word.Number n) = false
is_loose (word.Text n) = false
is_loose word.End = false
is_loose word.Fault = false

abbrev pub is_backslash_mark : Mark → Bool
is_backslash_mark mark.Backslash = true
is_backslash_mark m = false

abbrev pub is_backslash : Word → Bool
is_backslash (word.Mark m) = is_backslash_mark m
is_backslash (word.Keyword k) = false
is_backslash (word.Name x) = false
is_backslash (word.Number n) = false
is_backslash (word.Text n) = false
is_backslash word.End = false
is_backslash word.Fault = false

pub data Alike : List Part → List Part → Type 0 where
  nothing : Alike [] []
  same_word : {x : Word} {p q : Place} {r o : Role} {v w : List Part} → is_backslash x ≡ false → Alike v w → Alike (part x p r ∷ v) (part x q o ∷ w)
  same_mask : {x : Name} {p q p' q' : Place} {r o r' o' : Role} {v w : List Part} → Alike v w
      → Alike (part (word.Mark mark.Backslash) p r ∷ part (word.Name x) p' r' ∷ v) (part (word.Mark mark.Backslash) q o ∷ part (word.Name x) q' o' ∷ w)
  more_left : {x : Word} {p : Place} {r : Role} {v w : List Part} → is_loose x ≡ true → Alike v w → Alike (part x p r ∷ v) w
  more_right : {x : Word} {p : Place} {r : Role} {v w : List Part} → is_loose x ≡ true → Alike v w → Alike v (part x p r ∷ w)

pub alike_append : {v w v' w' : List Part} → Alike v w → Alike v' w' → Alike (v ++ v') (w ++ w')
alike_append nothing e = e
alike_append (same_word b d) e = same_word b (alike_append d e)
alike_append (same_mask d) e = same_mask (alike_append d e)
alike_append (more_left b d) e = more_left b (alike_append d e)
alike_append (more_right b d) e = more_right b (alike_append d e)

pub alike_atom_left : {v w : List Part} (k : ℕ) → Alike v w → Alike (atom k v) w
alike_atom_left k nothing = nothing
alike_atom_left k (same_word b d) = same_word b d
alike_atom_left k (same_mask d) = same_mask d
alike_atom_left k (more_left b d) = more_left b d
alike_atom_left k (more_right b d) = more_right b (alike_atom_left k d)

pub alike_atom_right : {v w : List Part} (k : ℕ) → Alike v w → Alike v (atom k w)
alike_atom_right k nothing = nothing
alike_atom_right k (same_word b d) = same_word b d
alike_atom_right k (same_mask d) = same_mask d
alike_atom_right k (more_left b d) = more_left b (alike_atom_right k d)
alike_atom_right k (more_right b d) = more_right b d

-- ---- no word passes a limit

abbrev pub Low : List Part → Type 0
Low [] = Unit {0}
Low (t ∷ w) = (limit_of t.role ≡ None) × Low w

pub low_append : (v w : List Part) → Low v → Low w → Low (v ++ w)
low_append [] w a b = b
low_append (t ∷ v) w a b = (a.0, low_append v w a.1 b)

pub low_atom : (k : ℕ) (v : List Part) → limit_of (Atom k) ≡ None → Low v → Low (atom k v)
low_atom k [] h l = tt
low_atom k (t ∷ v) h l = (h, l.1)

-- the words of a source: each is given, and passes no limit
abbrev pub Fine : Setting → List Part → Type 0
Fine s [] = Unit {0}
Fine s (t ∷ w) = IsGiven s t.word × (limit_of t.role ≡ None) × Fine s w

pub fine_left : (s : Setting) (v w : List Part) → Fine s (v ++ w) → Fine s v
fine_left s [] w f = tt
fine_left s (t ∷ v) w f = (f.0, f.1, fine_left s v w f.2)

pub fine_right : (s : Setting) (v w : List Part) → Fine s (v ++ w) → Fine s w
fine_right s [] w f = f
fine_right s (t ∷ v) w f = fine_right s v w f.2

-- ---- what is written for words of a source

-- `Lays s rest n t w Is`: the bytes t, the first at n, before rest are words that are alike to w, pass no limit, and are
-- what Is says
pub record Lays (s : Setting) (rest : List ℕ) (n : ℕ) (t : List ℕ) (w : List Part) (Is : List Part → Type 0) : Type 0 where
  pub parts : List Part
  pub written : Written s rest n t parts
  pub alike : Alike parts w
  pub low : Low parts
  pub is : Is parts

pub lays_none : {s : Setting} {rest : List ℕ} {n : ℕ} {Is : List Part → Type 0} → Is [] → Lays s rest n [] [] Is
lays_none i = record { parts = []; written = done; alike = nothing; low = tt; is = i }

pub lays_blank : {s : Setting} {rest : List ℕ} {n c : ℕ} {t : List ℕ} {w : List Part} {Is : List Part → Type 0} → is_blank c ≡ true
    → Lays s rest (suc n) t w Is → Lays s rest n (c ∷ t) w Is
lays_blank b l = record { parts = l.parts; written = blank b l.written; alike = l.alike; low = l.low; is = l.is }

pub lays_map : {s : Setting} {rest : List ℕ} {n : ℕ} {t : List ℕ} {w : List Part} {P Q : List Part → Type 0}
    → Lays s rest n t w P → ((v : List Part) → P v → Q v) → Lays s rest n t w Q
lays_map l f = record { parts = l.parts; written = l.written; alike = l.alike; low = l.low; is = f l.parts l.is }

-- one behind the other: the second may hang on the words of the first
pub lays_then : {s : Setting} {rest : List ℕ} {n : ℕ} (t u : List ℕ) {w w' : List Part} {P R : List Part → Type 0}
    → Lays s (u ++ rest) n t w P → ((v : List Part) → P v → Lays s rest (n + length t) u w' (λ v'. R (v ++ v')))
    → Lays s rest n (t ++ u) (w ++ w') R
lays_then t u l f =
    let m = f l.parts l.is in
    record {
      parts = l.parts ++ m.parts;
      written = written_append u m.parts l.written m.written;
      alike = alike_append l.alike m.alike;
      low = low_append l.parts m.parts l.low m.low;
      is = m.is;
    }

-- a word of the source, and what stands behind it
pub lays_word : {s : Setting} {rest : List ℕ} {n : ℕ} {x : Word} (r : Role) {q : Place} {o : Role} (u t : List ℕ) {w : List Part} {R : List Part → Type 0}
    → Piece s x u (t ++ rest) → is_backslash x ≡ false → limit_of r ≡ None → Lays s rest (n + length u) t w (λ v. R (part x (s.at n) r ∷ v))
    → Lays s rest n (u ++ t) (part x q o ∷ w) R
lays_word {s = s} {n = n} {x = x} r u t p b h l = record {
  parts = part x (s.at n) r ∷ l.parts;
  written = then_word u r p l.written;
  alike = same_word b l.alike;
  low = (h, l.low);
  is = l.is;
}

-- a word that the source need not have
pub lays_new : {s : Setting} {rest : List ℕ} {n : ℕ} {x : Word} (r : Role) (u t : List ℕ) {w : List Part} {R : List Part → Type 0}
    → Piece s x u (t ++ rest) → is_loose x ≡ true → limit_of r ≡ None → Lays s rest (n + length u) t w (λ v. R (part x (s.at n) r ∷ v))
    → Lays s rest n (u ++ t) w R
lays_new {s = s} {n = n} {x = x} r u t p b h l = record {
  parts = part x (s.at n) r ∷ l.parts;
  written = then_word u r p l.written;
  alike = more_left b l.alike;
  low = (h, l.low);
  is = l.is;
}

-- a keyword, a mark, a name
pub lays_key : {s : Setting} {rest : List ℕ} {n : ℕ} (k : Keyword) {q : Place} (t : List ℕ) {w : List Part} {R : List Part → Type 0}
    → breaks (t ++ rest) ≡ true → Lays s rest (n + length (keyword_text k)) t w (λ v. R (key k (s.at n) ∷ v))
    → Lays s rest n (keyword_text k ++ t) (key k q ∷ w) R
lays_key k t b l = lays_word Plain (keyword_text k) t (a_keyword k b) refl refl l

pub lays_mark : {s : Setting} {rest : List ℕ} {n : ℕ} (m : Mark) (r : Role) {q : Place} {o : Role} (t : List ℕ) {w : List Part} {R : List Part → Type 0}
    → calm (t ++ rest) ≡ true → is_backslash_mark m ≡ false → limit_of r ≡ None
    → Lays s rest (n + length (mark_text m)) t w (λ v. R (part (word.Mark m) (s.at n) r ∷ v))
    → Lays s rest n (mark_text m ++ t) (part (word.Mark m) q o ∷ w) R
lays_mark m r t b h e l = lays_word r (mark_text m) t (a_mark m b) h e l

pub lays_name : {s : Setting} {rest : List ℕ} {n : ℕ} (x : Name) (r : Role) {q : Place} {o : Role} (t : List ℕ) {w : List Part} {R : List Part → Type 0}
    → GivenName s.names x → breaks (t ++ rest) ≡ true → limit_of r ≡ None
    → Lays s rest (n + length (name_text s.names x)) t w (λ v. R (part (word.Name x) (s.at n) r ∷ v))
    → Lays s rest n (name_text s.names x ++ t) (part (word.Name x) q o ∷ w) R
lays_name {s = s} x r t g b e l = lays_word r (name_text s.names x) t (a_name g b) refl e l

-- a mask
pub lays_mask : {s : Setting} {rest : List ℕ} {n : ℕ} (x : Name) {o q : Place} (t : List ℕ) {w : List Part} {R : List Part → Type 0}
    → GivenName s.names x → calm ((name_text s.names x ++ t) ++ rest) ≡ true → breaks (t ++ rest) ≡ true
    → Lays s rest (n + 1 + length (name_text s.names x)) t w (λ v. R (Parts.mark mark.Backslash (s.at n) ∷ name x (s.at (n + 1)) ∷ v))
    → Lays s rest n (92 ∷ (name_text s.names x ++ t)) (Parts.mark mark.Backslash o ∷ name x q ∷ w) R
lays_mask {s = s} {n = n} x t g c b l = record {
  parts = Parts.mark mark.Backslash (s.at n) ∷ name x (s.at (n + 1)) ∷ l.parts;
  written = then_word (mark_text mark.Backslash) Plain (a_mark mark.Backslash c) (then_word (name_text s.names x) Plain (a_name g b) l.written);
  alike = same_mask l.alike;
  low = (refl, (refl, l.low));
  is = l.is;
}

-- a word that the source alone has, in front or behind
pub lays_without : {s : Setting} {rest : List ℕ} {n : ℕ} {x : Word} {q : Place} {o : Role} {t : List ℕ} {w : List Part} {P : List Part → Type 0}
    → is_loose x ≡ true → Lays s rest n t w P → Lays s rest n t (part x q o ∷ w) P
lays_without b l = record { parts = l.parts; written = l.written; alike = more_right b l.alike; low = l.low; is = l.is }

alike_behind : (y : Part) {v w : List Part} → is_loose y.word ≡ true → Alike v w → Alike v (w ++ y ∷ [])
alike_behind y b nothing = more_right b nothing
alike_behind y b (same_word c d) = same_word c (alike_behind y b d)
alike_behind y b (same_mask d) = same_mask (alike_behind y b d)
alike_behind y b (more_left c d) = more_left c (alike_behind y b d)
alike_behind y b (more_right c d) = more_right c (alike_behind y b d)

pub lays_without_behind : {s : Setting} {rest : List ℕ} {n : ℕ} (y : Part) {t : List ℕ} {w : List Part} {P : List Part → Type 0}
    → is_loose y.word ≡ true → Lays s rest n t w P → Lays s rest n t (w ++ y ∷ []) P
lays_without_behind y b l = record { parts = l.parts; written = l.written; alike = alike_behind y b l.alike; low = l.low; is = l.is }

-- a text that is the same, and words that are the same
pub lays_text : {s : Setting} {rest : List ℕ} {n : ℕ} {t u : List ℕ} {w : List Part} {P : List Part → Type 0} → t ≡ u → Lays s rest n t w P → Lays s rest n u w P
lays_text {s} {rest} {n} {w = w} {P = P} e l = subst (λ (x : List ℕ). Lays s rest n x w P) e l

pub lays_words : {s : Setting} {rest : List ℕ} {n : ℕ} {t : List ℕ} {v w : List Part} {P : List Part → Type 0} → v ≡ w → Lays s rest n t v P → Lays s rest n t w P
lays_words {s} {rest} {n} {t = t} {P = P} e l = subst (λ (x : List Part). Lays s rest n t x P) e l
