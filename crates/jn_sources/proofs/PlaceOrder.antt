-- Places rise along the words of a source, and so along what stands in them.
use Rattle.std.proofs.Common.{◌≡◌, ℕ, ◌+◌, ◌-◌, ◌<◌, ◌≤◌, List, [], ◌∷◌, ◌++◌, length, map, take, drop, refl, sym, ap, ◌∙◌, subst, arith, true, false, Bool, ◌==◌, if◌then◌else◌, length-drop, length-append, Option, zero-add}
use Rattle.std.proofs.Math.Seq.{take-append_seam}
use Rattle.std.proofs.lemmas.List.{length-take-le}
use Rattle.std.specs.declared.cmp.Ordering.{Ordering}
use Rattle.std.specs.declared.cmp.Ordering.TheVariants.{Less, Equal}
use Rattle.std.specs.Ordering.{nat_cmp, ordering_then}
use Rattle.std.specs.Cmp.{nat_cmp_is}
use Rattle.std.specs.List.{AllByRecursion}
use Rattle.std.specs.List.Sorted.{IsStrictlySortedBy}
use Rattle.jn_base.specs.declared.token.Token.{Token}
use Rattle.jn_base.specs.declared.tree.Place.{Place}
use Rattle.jn_base.specs.declared.tree.Text.{Text}
use Rattle.jn_base.specs.declared.word.Lexeme.{Lexeme}
use Rattle.jn_base.specs.Places.{place_of}
use Rattle.jn_base.specs.Words.{AreWords}
use Rattle.jn_base.specs.Parts.{Part}
use Rattle.jn_base.specs.declared.token.LexFault.{LexFault}
use Rattle.jn_base.specs.Tokens.{line_feed, width, TokensOf}
use Rattle.jn_lexer.specs.Lexing.{AreInOrder}
use Rattle.jn_lexer.proofs.Order.{lexes_order}
use Rattle.jn_parser.specs.Moved.{next_place, moved}
use Rattle.jn_parser.proofs.Places.{moved_to}
use Rattle.jn_sources.specs.SourceOrder.{place_cmp, Ascend}
use Rattle.jn_sources.proofs.Subsequence.{Sub, done, skip, take as taken}

-- ---- one place before another

pub data Earlier (a b : Place) : Type 0 where
  by_line : a.line < b.line → Earlier a b
  by_column : a.line ≡ b.line → a.column < b.column → Earlier a b

earlier_still : {a b c : Place} → Earlier a b → Earlier b c → Earlier a c
earlier_still (by_line h) (by_line k) = by_line (omega arith)
earlier_still (by_line h) (by_column e k) = by_line (omega arith)
earlier_still (by_column e h) (by_line k) = by_line (omega arith)
earlier_still (by_column e h) (by_column f k) = by_column (e ∙ f) (omega arith)

next_later : (p : Place) (b : ℕ) → Earlier p (next_place p b)
next_later p b = by (b == line_feed) where
  by : (c : Bool) → Earlier p (if c then record { line = p.line + 1; column = 1 } else record {
    line = p.line;
    column = p.column + 1;
  })
  by true = by_line (omega arith)
  by false = by_column refl (omega arith)

moved_later : (p : Place) (b : ℕ) (bs : List ℕ) → Earlier p (moved p (b ∷ bs))
moved_later p b [] = next_later p b
moved_later p b (c ∷ bs) = earlier_still (next_later p b) (moved_later (next_place p b) c bs)

some_later : (p : Place) (bs : List ℕ) → 0 < length bs → Earlier p (moved p bs)
some_later p [] h = absurd (omega arith)
some_later p (b ∷ bs) h = moved_later p b bs

-- of two bytes of a source the first has the earlier place
pub byte_later : (bytes : List ℕ) (i j : ℕ) → i < j → j ≤ length bytes → Earlier (place_of bytes i) (place_of bytes j)
byte_later bytes i j h k =
    let n : ℕ = j - i in
    let room : n ≤ length (drop i bytes) = omega (arith, h, k, length-drop i bytes) in
    let some : 0 < length (take n (drop i bytes)) = omega (arith, h, length-take-le n (drop i bytes) room) in
    subst (λ (p : Place). Earlier (place_of bytes i) p)
    (moved_to bytes i n ∙ ap (λ m. place_of bytes m) (omega (arith, h)))
    (some_later (place_of bytes i) (take n (drop i bytes)) some)

-- ---- places that rise

-- the places rise from p on
pub Rise : Place → List Place → Type 0
Rise p [] = Unit {0}
Rise p (q ∷ qs) = Earlier p q × Rise q qs

rise_before : {p q : Place} (qs : List Place) → Earlier p q → Rise q qs → Rise p qs
unfolding Rise
rise_before [] h r = tt
rise_before (x ∷ qs) h r = (earlier_still h r.0, r.1)

abbrev pub part_place : Part → Place
part_place t = t.at

-- so they do along what stands in the words
pub sub_rises : (p : Place) {ps : List Place} {w : List Part} → Sub ps w → Rise p (map part_place w) → Rise p ps
unfolding Rise
sub_rises p done r = tt
sub_rises p (skip {t = t} {w = w} s) r = sub_rises p s (rise_before (map part_place w) r.0 r.1)
sub_rises p (taken {t = t} {w = w} s) r = (r.0, sub_rises t.at s r.1)

-- ---- and along the words of tokens

order_end : (from to : ℕ) (ts : List Token) → AreInOrder from ts to → from ≤ to
order_end from to [] o = o
order_end from to (t ∷ ts) o = omega (arith, o.0, o.1, order_end t.end to ts o.2)

pub words_rise : (bytes : List ℕ) (names texts : List Text) (ts : List Token) (ws : List Lexeme) (from : ℕ)
    (p : Place) → AreWords bytes names texts ts ws
    → AreInOrder from ts (length bytes) → ((i : ℕ) → from ≤ i → i < length bytes → Earlier p (place_of bytes i))
    → Rise p (map (λ (w : Lexeme). w.at) ws)
unfolding Rise
words_rise bytes names texts _ _ from p AreWords.no_word o f = tt
words_rise bytes names texts (t ∷ ts) _ from p (AreWords.then_word {ws = ws} is more) o f =
    let last = order_end t.end (length bytes) ts o.2 in (
      f t.start o.0 (omega (arith, o.1, last)),
      words_rise bytes names texts ts ws t.end (place_of bytes t.start) more o.2
          (λ i h k. byte_later bytes t.start i (omega (arith, o.1, h)) (omega (arith, k))),
    )

-- ---- rising places are in order

less_is : (a b : ℕ) → a < b → nat_cmp a b ≡ Less
less_is a b l = sym (nat_cmp_is a b Less l)

same_is : (a b : ℕ) → a ≡ b → nat_cmp a b ≡ Equal
same_is a b e = sym (nat_cmp_is a b Equal e)

earlier_less : {a b : Place} → Earlier a b → place_cmp a b ≡ Less
earlier_less {a} {b} (by_line h) =
    ap (λ (r : Ordering). ordering_then r (nat_cmp a.column b.column)) (less_is a.line b.line h)
earlier_less {a} {b} (by_column e h) =
    ap (λ (r : Ordering). ordering_then r (nat_cmp a.column b.column)) (same_is a.line b.line e) ∙
    less_is a.column b.column h

below_all : (p : Place) (qs : List Place) → Rise p qs → AllByRecursion (λ (q : Place). place_cmp p q ≡ Less) qs
unfolding Rise
below_all p [] r = tt
below_all p (q ∷ qs) r = (earlier_less r.0, below_all p qs (rise_before qs r.0 r.1))

pub rise_ascends : (p : Place) (qs : List Place) → Rise p qs → Ascend qs
unfolding Rise IsStrictlySortedBy
rise_ascends p [] r = tt
rise_ascends p (q ∷ qs) r = (below_all q qs r.1, rise_ascends q qs r.1)

-- ---- the tokens of a source stand in order

pub tokens_order : (bytes : List ℕ) (ts : List Token) (f : Option LexFault) → TokensOf bytes ts f
    → AreInOrder 0 ts (length bytes)
tokens_order bytes ts f t =
    subst (λ n. AreInOrder 0 ts n) (zero-add (width t.characters) ∙ ap length t.spelled) (lexes_order t.lexed)

front_is : {A : Type 0} (xs : List A) (x : A) → take (length (xs ++ x ∷ []) - 1) (xs ++ x ∷ []) ≡ xs
front_is {A} xs x =
    let n : length (xs ++ x ∷ []) - 1 ≡ length xs = omega (arith, length-append xs (x ∷ [])) in
    ap (λ n. take n (xs ++ x ∷ [])) n ∙ take-append_seam xs (x ∷ [])

pub without_last : {A : Type 0} (xs ys : List A) (x y : A) → xs ++ x ∷ [] ≡ ys ++ y ∷ [] → xs ≡ ys
without_last {A} xs ys x y e = sym (front_is xs x) ∙ (ap (λ (l : List A). take (length l - 1) l) e ∙ front_is ys y)
