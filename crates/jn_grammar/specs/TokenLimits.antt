-- The limits that the words alone show: different masks and different names. And the first fault of both kinds.
use Rattle.std.specs.Prelude.{◌≡◌, ℕ, suc, ◌-◌, Bool, true, false, ◌&&◌, not, eqb, nat_lt, nat_le, List, [], ◌∷◌, ◌++◌, length, drop, Option, Some, None, Ok, Err, if◌then◌else◌}
use Rattle.jn_base.specs.declared.tree.Place.{Place}
use Rattle.jn_base.specs.declared.tree.Decl.{Decl}
use Rattle.jn_base.specs.declared.refusal.Limit.{Limit}
use Rattle.jn_base.specs.declared.refusal.Limit.TheVariants.{Masks, Names}
use Rattle.jn_base.specs.declared.refusal.Rule.{Rule}
use Rattle.jn_base.specs.declared.refusal.Rule.TheVariants.{E01, E04}
use Rattle.jn_base.specs.declared.word.Mark.TheVariants.{Backslash}
use Rattle.jn_base.specs.declared.word.Word.{Word}
use Rattle.jn_base.specs.declared.word.Word.TheVariants.{Mark as Marked, End, Fault as Broken}
use Rattle.jn_base.specs.declared.word.Lexeme.{Lexeme}
use Rattle.jn_base.specs.Words.{name_number}
use Rattle.jn_base.specs.Spelling.{IsClean, IsFirstRefused}
use Rattle.jn_grammar.specs.declared.fault.Fault.{Fault}
use Rattle.jn_grammar.specs.declared.fault.Fault.TheVariants.{Syntax, Passed}
use Rattle.jn_grammar.specs.Begins.{is_word, place}
use Rattle.jn_grammar.specs.Answers.{Answer}
use Rattle.jn_grammar.specs.ReadWhole.{program_in}

-- What the words before show: the different masks, and whether the last word is a backslash.
pub record Seen : Type 0 where
  pub masks : List ℕ
  pub behind : Bool

abbrev pub nothing_seen : Seen
nothing_seen = record { masks = []; behind = false }

abbrev pub has : List ℕ → ℕ → Bool
has [] n = false
has (m ∷ ms) n = if eqb m n then true else has ms n

-- the limit that a word passes, by the number of its name: the 257th different mask, the 65,536th name
abbrev pub passes_names : ℕ → Option Limit
passes_names n = if nat_le 65535 n then Some Names else None

abbrev pub shows : Seen → Option ℕ → Option Limit
shows s None = None
shows s (Some n) = if s.behind && (not (has s.masks n) && nat_le 256 (length s.masks)) then Some Masks else passes_names n

abbrev pub masks_with : Bool → Option ℕ → List ℕ → List ℕ
masks_with true (Some n) ms = if has ms n then ms else n ∷ ms
masks_with true None ms = ms
masks_with false n ms = ms

-- with a word more
abbrev pub after_word : Seen → Word → Seen
after_word s w = record { masks = masks_with s.behind (name_number w) s.masks; behind = is_word (Marked Backslash) w }

abbrev pub limit_or : Option Limit → ℕ → Option (Limit × ℕ) → Option (Limit × ℕ)
limit_or (Some l) left others = Some (l, left)
limit_or None left others = others

-- the first limit that is passed, with how many words stand from there to the end
unfoldable pub limits_from : List Lexeme → Seen → Option (Limit × ℕ)
limits_from [] s = None
limits_from (t ∷ ts) s = limit_or (shows s (name_number t.word)) (suc (length ts)) (limits_from ts (after_word s t.word))

abbrev pub token_limit : List Lexeme → Option (Limit × ℕ)
token_limit ws = limits_from ws nothing_seen

-- how many words stand from a fault to the end
abbrev pub left_of : Fault → ℕ
left_of (Syntax i) = i
left_of (Passed l i) = i

-- the earlier of a fault of reading and of this limit; at one word that of reading
abbrev pub earlier : {A : Type 0} → Option (Limit × ℕ) → Answer A → Answer A
earlier None r = r
earlier (Some l) (Ok x) = Err (Passed l.0 l.1)
earlier (Some l) (Err f) = if nat_lt (left_of f) l.1 then Err (Passed l.0 l.1) else Err f

-- A program with all its limits.
unfoldable pub checked_in : List Lexeme → Answer (List Decl)
checked_in ws = earlier (token_limit ws) (program_in ws)

-- What the verdict shows of a fault: its rule, its place and its limit.
abbrev pub rule_of : Fault → Rule
rule_of (Syntax i) = E01
rule_of (Passed l i) = E04

abbrev pub limit_shown : Fault → Option Limit
limit_shown (Syntax i) = None
limit_shown (Passed l i) = Some l

abbrev pub place_left : List Lexeme → ℕ → Place
place_left ws left = place (drop (length ws - left) ws)

-- what stands behind the tokens: the end of the file, or the first lexical fault
pub data IsLast : Word → Type 0 where
  the_end : IsLast End
  no_word : IsLast Broken

-- two refusals are one
pub record SameRefusal (r q : Rule) (at p : Place) (l m : Option Limit) : Type 0 where
  pub rules : r ≡ q
  pub places : at ≡ p
  pub limits : l ≡ m

-- each of the words begins a program with those before it, and passes no limit
abbrev pub AreClean : List Lexeme → Type 0
AreClean ws = (before behind : List Lexeme) (t : Lexeme) → ws ≡ before ++ t ∷ behind → IsClean before t

-- the first refusal of the words is that of this fault
abbrev pub IsFirstFault : List Lexeme → Fault → Type 0
IsFirstFault ws f = IsFirstRefused ws (rule_of f) (place_left ws (left_of f)) (limit_shown f)
