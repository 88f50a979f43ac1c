-- What the parser makes of a word by itself, by what the definition makes of it.
use Rattle.std.proofs.Common.{◌≡◌, ◌∙◌, ℕ, arith, Bool, true, false, cond, ◌||◌, refl, sym, ap, subst, List, [], ◌∷◌, Option, Some, None}
use Rattle.std.specs.Prelude.{◌==◌, ◌⊎◌, bytes_eq, option_map}
use Rattle.std.specs.List.{before_first}
use Rattle.std.specs.Str.{IsUtf8, chars}
use Rattle.std.proofs.Common.{inl, inr}
use Rattle.std.proofs.Math.Utf8.{encode, encodes}
use Rattle.std.proofs.lemmas.Str.{chars_past_char, encodes-chars}
use Rattle.clap.specs.Lexer.{long_of, short_of}
use Rattle.clap.specs.Walk.{Rule, arg_by_long}
use Rattle.clap.specs.Simple.{Shape, built, filled, with_index}
use Rattle.jn_jobs.specs.Parts.{Text, Bound, Arena, Depth, Steps, name_of, bound_named, is_plain, Dashed, Ends, Names, Gives, Wrong, is_equals, value_in, option_by, option_in, dashed}
use Rattle.jn_jobs.specs.Command.{command, words_rule, option_rule}

-- The command as the parser builds it.
abbrev pub shape : Shape
shape = (built command).top

abbrev pub rules : List Rule
rules = shape.rules

abbrev pub words_is : Rule
words_is = with_index 1 (filled words_rule)

abbrev pub option_is : Bound → Rule
option_is x = with_index 2 (filled (option_rule (name_of x)))

-- An option's name finds its rule.
pub find_named : (name : Text) → arg_by_long rules name ≡ option_map option_is (bound_named name)
find_named name = go (bytes_eq (name_of Arena) name) (bytes_eq (name_of Depth) name) (bytes_eq (name_of Steps) name)
  where
    go : (a b c : Bool) → cond (a || false) (Some (option_is Arena)) (cond (b || false) (Some (option_is Depth)) (cond (c || false) (Some (option_is Steps)) None))
        ≡ option_map option_is (cond a (Some Arena) (cond b (Some Depth) (cond c (Some Steps) None)))
    go true b c = refl
    go false true c = refl
    go false false true = refl
    go false false false = refl

-- The parser sees no flag in a plain word.
pub record SeesPlain (word : Text) : Type 0 where
  pub ends : bytes_eq word (45 ∷ 45 ∷ []) ≡ false
  pub long : long_of word ≡ None
  pub short : short_of word ≡ None

-- It sees an option in a word, with the value that is attached to it.
pub record SeesOption (word : Text) (x : Bound) (value : Option Text) : Type 0 where
  pub ends : bytes_eq word (45 ∷ 45 ∷ []) ≡ false
  pub name : Text
  pub long : long_of word ≡ Some (name, value)
  pub rule : arg_by_long rules name ≡ Some (option_is x)

-- It refuses a long name, or the first character of short ones.
pub record LongWrong (word : Text) : Type 0 where
  pub ends : bytes_eq word (45 ∷ 45 ∷ []) ≡ false
  pub name : Text
  pub value : Option Text
  pub long : long_of word ≡ Some (name, value)
  pub rule : arg_by_long rules name ≡ None

pub record ShortWrong (word : Text) : Type 0 where
  pub ends : bytes_eq word (45 ∷ 45 ∷ []) ≡ false
  pub first : ℕ
  pub flags : Text
  pub long : long_of word ≡ None
  pub short : short_of word ≡ Some (first ∷ flags)
  pub char : ℕ
  pub more : List ℕ
  pub chars : chars (first ∷ flags) ≡ char ∷ more

abbrev pub Sees : Text → Dashed → Type 0
Sees word Ends = bytes_eq word (45 ∷ 45 ∷ []) ≡ true
Sees word (Names x) = SeesOption word x None
Sees word (Gives x value) = SeesOption word x (Some value)
Sees word Wrong = LongWrong word ⊎ ShortWrong word

pub plain_seen : (word : Text) → is_plain word ≡ true → SeesPlain word
plain_seen [] e = record { ends = refl; long = refl; short = refl }
plain_seen (b ∷ []) e = go (b == 45) refl
  where
    go : (d : Bool) → (b == 45) ≡ d → SeesPlain (b ∷ [])
    go true f = record { ends = rw f refl; long = rw f refl; short = rw f refl }
    go false f = record { ends = rw f refl; long = rw f refl; short = rw f refl }
plain_seen (b ∷ c ∷ cs) e = go (b == 45) refl
  where
    go : (d : Bool) → (b == 45) ≡ d → SeesPlain (b ∷ c ∷ cs)
    go true f =
        let bad : false ≡ true = rw f at e in
        absurd cc
    go false f = record { ends = rw f refl; long = rw f refl; short = rw f refl }

-- A text behind a dash has a first character.
flag_chars : (c : ℕ) (cs : Text) → IsUtf8 (45 ∷ c ∷ cs) → (x : ℕ) × (xs : List ℕ) × (chars (c ∷ cs) ≡ x ∷ xs)
unfolding encode
flag_chars c cs utf8 = go (chars (c ∷ cs)) refl
  where
    whole : encodes (45 ∷ chars (c ∷ cs)) ≡ 45 ∷ c ∷ cs
    whole = ap encodes (sym (chars_past_char (45 ∷ c ∷ cs) (c ∷ cs) 45 utf8 refl)) ∙ encodes-chars (45 ∷ c ∷ cs) utf8

    go : (l : List ℕ) → chars (c ∷ cs) ≡ l → (x : ℕ) × (xs : List ℕ) × (chars (c ∷ cs) ≡ x ∷ xs)
    go [] e =
        let bad : 45 ∷ [] ≡ 45 ∷ c ∷ cs = rw e at whole in
        absurd cc
    go (x ∷ xs) e = (x, xs, e)

-- What stands behind two dashes.
behind_dashes : (word cs : Text) → bytes_eq word (45 ∷ 45 ∷ []) ≡ false → long_of word ≡ Some (before_first is_equals cs, value_in cs) → Sees word (option_in cs)
behind_dashes word cs ends long = go (bound_named (before_first is_equals cs)) (value_in cs) refl refl
  where
    go : (o : Option Bound) (v : Option Text) → bound_named (before_first is_equals cs) ≡ o → value_in cs ≡ v → Sees word (option_by o v)
    go None v e f = inl (record { ends = ends; name = before_first is_equals cs; value = value_in cs; long = long; rule = find_named (before_first is_equals cs) ∙ ap (option_map option_is) e })
    go (Some x) None e f = record { ends = ends; name = before_first is_equals cs; long = long ∙ ap (λ (v : Option Text). Some (before_first is_equals cs, v)) f; rule = find_named (before_first is_equals cs) ∙ ap (option_map option_is) e }
    go (Some x) (Some v) e f = record { ends = ends; name = before_first is_equals cs; long = long ∙ ap (λ (w : Option Text). Some (before_first is_equals cs, w)) f; rule = find_named (before_first is_equals cs) ∙ ap (option_map option_is) e }

pub dashed_seen : (word : Text) → is_plain word ≡ false → IsUtf8 word → Sees word (dashed word)
dashed_seen [] e utf8 = absurd cc
dashed_seen (b ∷ []) e utf8 = go (b == 45) refl
  where
    go : (d : Bool) → (b == 45) ≡ d → Sees (b ∷ []) (dashed (b ∷ []))
    go true f =
        let bad : true ≡ false = rw f at e in
        absurd cc
    go false f =
        let bad : true ≡ false = rw f at e in
        absurd cc
dashed_seen (b ∷ c ∷ cs) e utf8 = go (b == 45) (c == 45) refl refl
  where
    -- the word begins with two dashes
    two : (rest : Text) → (b == 45) ≡ true → (c == 45) ≡ true → Sees (b ∷ c ∷ rest) (dashed (b ∷ c ∷ rest))
    two [] f h =
        let is : dashed (b ∷ c ∷ []) ≡ Ends = rw (f, h) refl in
        let same : bytes_eq (b ∷ c ∷ []) (45 ∷ 45 ∷ []) ≡ true = rw (f, h) refl in
        subst (Sees (b ∷ c ∷ [])) (sym is) same
    two (d ∷ ds) f h =
        let ends : bytes_eq (b ∷ c ∷ d ∷ ds) (45 ∷ 45 ∷ []) ≡ false = rw (f, h) refl in
        let is : dashed (b ∷ c ∷ d ∷ ds) ≡ option_in (d ∷ ds) = rw (f, h) refl in
        subst (Sees (b ∷ c ∷ d ∷ ds)) (sym is) (behind_dashes (b ∷ c ∷ d ∷ ds) (d ∷ ds) ends (rw (f, h) refl))

    one : (b == 45) ≡ true → (c == 45) ≡ false → Sees (b ∷ c ∷ cs) (dashed (b ∷ c ∷ cs))
    one f h =
        let b_is : b ≡ 45 = grind (arith, f) in
        let first = flag_chars c cs (subst (λ (x : ℕ). IsUtf8 (x ∷ c ∷ cs)) b_is utf8) in
        let is : dashed (b ∷ c ∷ cs) ≡ Wrong = rw (f, h) refl in
        subst (Sees (b ∷ c ∷ cs)) (sym is) (inr (record {
          ends = rw (f, h) refl;
          first = c;
          flags = cs;
          long = rw (f, h) refl;
          short = rw (f, h) refl;
          char = first.0;
          more = first.1;
          chars = first.2;
        }))

    go : (d k : Bool) → (b == 45) ≡ d → (c == 45) ≡ k → Sees (b ∷ c ∷ cs) (dashed (b ∷ c ∷ cs))
    go true true f h = two cs f h
    go true false f h = one f h
    go false k f h =
        let bad : true ≡ false = rw f at e in
        absurd cc
