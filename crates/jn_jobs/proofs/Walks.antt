-- The parser's walk over the words goes as the definition says.
use Rattle.std.proofs.Common.{◌≡◌, ◌∙◌, Bool, true, false, refl, sym, ap, ap₂, subst, List, [], ◌∷◌, ◌++◌, append_assoc, append-nil, Option, Some, None, inl, inr}
use Rattle.std.specs.Prelude.{bytes_eq, codes, option_map}
use Rattle.std.specs.List.{fold}
use Rattle.std.specs.Str.{IsUtf8}
use Rattle.clap.specs.Walk.{Row, Waiting, idle, option, positional, Walk, settled_rows, walked, with_values}
use Rattle.clap.specs.Kinds.{Kinds, or_else}
use Rattle.clap.specs.Faults.{flags_fault, settle_fault, turn_fault, walk_fault}
use Rattle.clap.specs.declared.builder.value_parser.Reading.TheVariants.{AsWritten}
use Rattle.clap.specs.declared.parser.matches.ValueSource.TheVariants.{CommandLine}
use Rattle.jn_jobs.specs.Parts.{Text, Bound, Arena, Depth, Steps, name_of, is_plain, Dashed, Ends, Names, Gives, Wrong, dashed, Parts, only, with_word, with_value, by_dashed, parts}
use Rattle.jn_jobs.specs.Command.{values_of}
use Rattle.jn_jobs.proofs.Words.{shape, rules, SeesPlain, plain_seen, SeesOption, LongWrong, ShortWrong, Sees, dashed_seen}
use Rattle.jn_jobs.proofs.Rows.{values_added, values_kept}

-- ---- where the walk stands

-- Where a value goes.
pub data Slot : Type 0 where
  words : Slot
  bound : Bound → Slot

abbrev id_of : Slot → Text
id_of words = codes "words"
id_of (bound x) = name_of x

-- The argument that has its value, and is used with the next word.
abbrev Last : Type 0
Last = Option (Slot × Text)

abbrev pending_of : Last → Option (Text × List Text)
pending_of None = None
pending_of (Some p) = Some (id_of p.0, p.1 ∷ [])

abbrev used : Slot → Text → List Row → List Row
used x v rows = with_values (id_of x) AsWritten CommandLine (v ∷ []) rows

-- The rows with it.
abbrev settle : Last → List Row → List Row
settle None rows = rows
settle (Some p) rows = used p.0 p.1 rows

abbrev at_word : Bool → Waiting → Option (Text × List Text) → List Row → Walk
at_word behind waiting pending rows = record {
  held = record { rows = rows; pending = pending; skip = 0 };
  waiting = waiting;
  position = 1;
  is_trailing = behind;
  stopped = None;
}

abbrev waiting_of : Bool → Waiting
waiting_of true = positional
waiting_of false = idle

-- Between two words, where no option waits for its value: `behind` the word `--` or not, and behind a positional word or not.
abbrev pub between : (behind after : Bool) → Last → List Row → Walk
between behind after last rows = at_word behind (waiting_of after) (pending_of last) rows

-- Where an option waits for its value.
abbrev waits : Bool → Bound → List Row → Walk
waits behind x rows = at_word behind (option (name_of x)) (Some (name_of x, [])) rows

-- ---- what is left of the walk: its faults, and its last rows

abbrev pub after_all : Walk → List Text → Walk
after_all w ws = fold (walked rules []) w ws

abbrev pub fault_left : Walk → List Text → Kinds
fault_left w ws = or_else (walk_fault shape [] w ws) (settle_fault rules false (after_all w ws).held)

abbrev pub last_rows : Walk → List Text → List Row
last_rows w ws = settled_rows rules (after_all w ws).held.pending (after_all w ws).held.rows

abbrev pub Fails : Kinds → Type 0
Fails ks = ks ≡ [] → ⊥

or_else_first : (a b : Kinds) → Fails a → Fails (or_else a b)
or_else_first [] b h = absurd (h refl)
or_else_first (k ∷ ks) b h = h

-- one step: no fault there, and then it goes on from w'
left_on : (w w' : Walk) (word : Text) (ws : List Text) → walked rules [] w word ≡ w' → turn_fault shape [] w word ≡ []
    → fault_left w (word ∷ ws) ≡ fault_left w' ws
unfolding walk_fault
left_on w w' word ws to none = ap₂ (λ (k : Kinds) (v : Walk). or_else (or_else k (walk_fault shape [] v ws)) (settle_fault rules false (after_all v ws).held)) none to

left_fails : (w : Walk) (word : Text) (ws : List Text) → Fails (turn_fault shape [] w word) → Fails (fault_left w (word ∷ ws))
unfolding walk_fault
left_fails w word ws h = or_else_first _ _ (or_else_first _ _ h)

rows_on : (w w' : Walk) (word : Text) (ws : List Text) → walked rules [] w word ≡ w' → last_rows w (word ∷ ws) ≡ last_rows w' ws
rows_on w w' word ws to = ap (λ (v : Walk). last_rows v ws) to

-- The rows have p beside what `base` has.
pub record Grows (base rows : List Row) (p : Parts) : Type 0 where
  pub positional : values_of (codes "words") rows ≡ values_of (codes "words") base ++ p.positional
  pub arena : values_of (name_of Arena) rows ≡ values_of (name_of Arena) base ++ p.arena
  pub depth : values_of (name_of Depth) rows ≡ values_of (name_of Depth) base ++ p.depth
  pub steps : values_of (name_of Steps) rows ≡ values_of (name_of Steps) base ++ p.steps

-- What the definition says is what is left of the walk.
abbrev pub Goes : Option Parts → List Row → Kinds → List Row → Type 0
Goes None base fault rows = Fails fault
Goes (Some p) base fault rows = (fault ≡ []) × Grows base rows p

grows_word : (v : Text) (base rows : List Row) (p : Parts) → Grows (used words v base) rows p → Grows base rows (with_word v p)
grows_word v base rows p g = record {
  positional = g.positional ∙ ap (λ (l : List Text). l ++ p.positional) (values_added (codes "words") AsWritten CommandLine (v ∷ []) base refl) ∙ append_assoc (values_of (codes "words") base) (v ∷ []) p.positional;
  arena = g.arena ∙ ap (λ (l : List Text). l ++ p.arena) (values_kept (name_of Arena) (codes "words") AsWritten CommandLine (v ∷ []) base refl);
  depth = g.depth ∙ ap (λ (l : List Text). l ++ p.depth) (values_kept (name_of Depth) (codes "words") AsWritten CommandLine (v ∷ []) base refl);
  steps = g.steps ∙ ap (λ (l : List Text). l ++ p.steps) (values_kept (name_of Steps) (codes "words") AsWritten CommandLine (v ∷ []) base refl);
}

grows_value : (x : Bound) (v : Text) (base rows : List Row) (p : Parts) → Grows (used (bound x) v base) rows p → Grows base rows (with_value x v p)
grows_value Arena v base rows p g = record {
  positional = g.positional ∙ ap (λ (l : List Text). l ++ p.positional) (values_kept (codes "words") (name_of Arena) AsWritten CommandLine (v ∷ []) base refl);
  arena = g.arena ∙ ap (λ (l : List Text). l ++ p.arena) (values_added (name_of Arena) AsWritten CommandLine (v ∷ []) base refl) ∙ append_assoc (values_of (name_of Arena) base) (v ∷ []) p.arena;
  depth = g.depth ∙ ap (λ (l : List Text). l ++ p.depth) (values_kept (name_of Depth) (name_of Arena) AsWritten CommandLine (v ∷ []) base refl);
  steps = g.steps ∙ ap (λ (l : List Text). l ++ p.steps) (values_kept (name_of Steps) (name_of Arena) AsWritten CommandLine (v ∷ []) base refl);
}
grows_value Depth v base rows p g = record {
  positional = g.positional ∙ ap (λ (l : List Text). l ++ p.positional) (values_kept (codes "words") (name_of Depth) AsWritten CommandLine (v ∷ []) base refl);
  arena = g.arena ∙ ap (λ (l : List Text). l ++ p.arena) (values_kept (name_of Arena) (name_of Depth) AsWritten CommandLine (v ∷ []) base refl);
  depth = g.depth ∙ ap (λ (l : List Text). l ++ p.depth) (values_added (name_of Depth) AsWritten CommandLine (v ∷ []) base refl) ∙ append_assoc (values_of (name_of Depth) base) (v ∷ []) p.depth;
  steps = g.steps ∙ ap (λ (l : List Text). l ++ p.steps) (values_kept (name_of Steps) (name_of Depth) AsWritten CommandLine (v ∷ []) base refl);
}
grows_value Steps v base rows p g = record {
  positional = g.positional ∙ ap (λ (l : List Text). l ++ p.positional) (values_kept (codes "words") (name_of Steps) AsWritten CommandLine (v ∷ []) base refl);
  arena = g.arena ∙ ap (λ (l : List Text). l ++ p.arena) (values_kept (name_of Arena) (name_of Steps) AsWritten CommandLine (v ∷ []) base refl);
  depth = g.depth ∙ ap (λ (l : List Text). l ++ p.depth) (values_kept (name_of Depth) (name_of Steps) AsWritten CommandLine (v ∷ []) base refl);
  steps = g.steps ∙ ap (λ (l : List Text). l ++ p.steps) (values_added (name_of Steps) AsWritten CommandLine (v ∷ []) base refl) ∙ append_assoc (values_of (name_of Steps) base) (v ∷ []) p.steps;
}

grows_none : (rows : List Row) → Grows rows rows (only [])
grows_none rows = record {
  positional = sym (append-nil (values_of (codes "words") rows));
  arena = sym (append-nil (values_of (name_of Arena) rows));
  depth = sym (append-nil (values_of (name_of Depth) rows));
  steps = sym (append-nil (values_of (name_of Steps) rows));
}

with_one : (f : Parts → Parts) (o : Option Parts) (base base' : List Row) (fault : Kinds) (rows : List Row)
    → ((p : Parts) → Grows base' rows p → Grows base rows (f p)) → Goes o base' fault rows → Goes (option_map f o) base fault rows
with_one f None base base' fault rows on g = g
with_one f (Some p) base base' fault rows on g = (g.0, on p g.1)

-- what holds from w' on holds a word before
on_from : (o : Option Parts) (base : List Row) (w w' : Walk) (word : Text) (ws : List Text) → walked rules [] w word ≡ w' → turn_fault shape [] w word ≡ []
    → Goes o base (fault_left w' ws) (last_rows w' ws) → Goes o base (fault_left w (word ∷ ws)) (last_rows w (word ∷ ws))
on_from o base w w' word ws to none g =
    subst (λ (k : Kinds). Goes o base k (last_rows w (word ∷ ws))) (sym (left_on w w' word ws to none))
    (subst (λ (r : List Row). Goes o base (fault_left w' ws) r) (sym (rows_on w w' word ws to)) g)

-- ---- the argument before is used

settled_is : (last : Last) (rows : List Row) → settled_rows rules (pending_of last) rows ≡ settle last rows
settled_is None rows = refl
settled_is (Some (words, v)) rows = refl
settled_is (Some (bound Arena, v)) rows = refl
settled_is (Some (bound Depth, v)) rows = refl
settled_is (Some (bound Steps, v)) rows = refl

settles : (last : Last) (rows : List Row) → settle_fault rules false (record { rows = rows; pending = pending_of last; skip = 0 }) ≡ []
settles None rows = refl
settles (Some (words, v)) rows = refl
settles (Some (bound Arena, v)) rows = refl
settles (Some (bound Depth, v)) rows = refl
settles (Some (bound Steps, v)) rows = refl

abbrev IsFaulty : Bound → List Row → Type 0
IsFaulty x rows = Fails (settle_fault rules false (record { rows = rows; pending = Some (name_of x, []); skip = 0 }))

-- an option without its value is a fault
unsettled : (x : Bound) (rows : List Row) → IsFaulty x rows
unsettled Arena rows = λ e. cc
unsettled Depth rows = λ e. cc
unsettled Steps rows = λ e. cc

-- ---- a word behind `--`

behind_to : (after : Bool) (last : Last) (rows : List Row) (word : Text) → walked rules [] (between true after last rows) word ≡ between true true (Some (words, word)) (settle last rows)
unfolding walked
behind_to true None rows word = refl
behind_to true (Some (words, v)) rows word = refl
behind_to true (Some (bound Arena, v)) rows word = refl
behind_to true (Some (bound Depth, v)) rows word = refl
behind_to true (Some (bound Steps, v)) rows word = refl
behind_to false None rows word = refl
behind_to false (Some (words, v)) rows word = refl
behind_to false (Some (bound Arena, v)) rows word = refl
behind_to false (Some (bound Depth, v)) rows word = refl
behind_to false (Some (bound Steps, v)) rows word = refl

behind_fault : (after : Bool) (last : Last) (rows : List Row) (word : Text) → turn_fault shape [] (between true after last rows) word ≡ []
behind_fault true None rows word = refl
behind_fault true (Some (words, v)) rows word = refl
behind_fault true (Some (bound Arena, v)) rows word = refl
behind_fault true (Some (bound Depth, v)) rows word = refl
behind_fault true (Some (bound Steps, v)) rows word = refl
behind_fault false None rows word = refl
behind_fault false (Some (words, v)) rows word = refl
behind_fault false (Some (bound Arena, v)) rows word = refl
behind_fault false (Some (bound Depth, v)) rows word = refl
behind_fault false (Some (bound Steps, v)) rows word = refl

-- ---- a plain word

plain_to : (after : Bool) (last : Last) (rows : List Row) (word : Text) → SeesPlain word → walked rules [] (between false after last rows) word ≡ between false true (Some (words, word)) (settle last rows)
unfolding walked
plain_to true None rows word s = rw (s.ends, s.long, s.short) refl
plain_to true (Some (words, v)) rows word s = rw (s.ends, s.long, s.short) refl
plain_to true (Some (bound Arena, v)) rows word s = rw (s.ends, s.long, s.short) refl
plain_to true (Some (bound Depth, v)) rows word s = rw (s.ends, s.long, s.short) refl
plain_to true (Some (bound Steps, v)) rows word s = rw (s.ends, s.long, s.short) refl
plain_to false None rows word s = rw (s.ends, s.long, s.short) refl
plain_to false (Some (words, v)) rows word s = rw (s.ends, s.long, s.short) refl
plain_to false (Some (bound Arena, v)) rows word s = rw (s.ends, s.long, s.short) refl
plain_to false (Some (bound Depth, v)) rows word s = rw (s.ends, s.long, s.short) refl
plain_to false (Some (bound Steps, v)) rows word s = rw (s.ends, s.long, s.short) refl

plain_fault : (after : Bool) (last : Last) (rows : List Row) (word : Text) → SeesPlain word → turn_fault shape [] (between false after last rows) word ≡ []
plain_fault true None rows word s = rw (s.ends, s.long, s.short) refl
plain_fault true (Some (words, v)) rows word s = rw (s.ends, s.long, s.short) refl
plain_fault true (Some (bound Arena, v)) rows word s = rw (s.ends, s.long, s.short) refl
plain_fault true (Some (bound Depth, v)) rows word s = rw (s.ends, s.long, s.short) refl
plain_fault true (Some (bound Steps, v)) rows word s = rw (s.ends, s.long, s.short) refl
plain_fault false None rows word s = rw (s.ends, s.long, s.short) refl
plain_fault false (Some (words, v)) rows word s = rw (s.ends, s.long, s.short) refl
plain_fault false (Some (bound Arena, v)) rows word s = rw (s.ends, s.long, s.short) refl
plain_fault false (Some (bound Depth, v)) rows word s = rw (s.ends, s.long, s.short) refl
plain_fault false (Some (bound Steps, v)) rows word s = rw (s.ends, s.long, s.short) refl

-- ---- `--`

ends_to : (after : Bool) (last : Last) (rows : List Row) (word : Text) → bytes_eq word (45 ∷ 45 ∷ []) ≡ true → walked rules [] (between false after last rows) word ≡ between true after last rows
unfolding walked
ends_to true last rows word e = rw e refl
ends_to false last rows word e = rw e refl

ends_fault : (after : Bool) (last : Last) (rows : List Row) (word : Text) → bytes_eq word (45 ∷ 45 ∷ []) ≡ true → turn_fault shape [] (between false after last rows) word ≡ []
ends_fault true last rows word e = rw e refl
ends_fault false last rows word e = rw e refl

-- ---- an option

names_to : (x : Bound) (after : Bool) (last : Last) (rows : List Row) (word : Text) → SeesOption word x None → walked rules [] (between false after last rows) word ≡ waits false x (settle last rows)
unfolding walked
names_to x true None rows word s = rw (s.ends, s.long, s.rule) refl
names_to x true (Some (words, v)) rows word s = rw (s.ends, s.long, s.rule) refl
names_to x true (Some (bound Arena, v)) rows word s = rw (s.ends, s.long, s.rule) refl
names_to x true (Some (bound Depth, v)) rows word s = rw (s.ends, s.long, s.rule) refl
names_to x true (Some (bound Steps, v)) rows word s = rw (s.ends, s.long, s.rule) refl
names_to x false None rows word s = rw (s.ends, s.long, s.rule) refl
names_to x false (Some (words, v)) rows word s = rw (s.ends, s.long, s.rule) refl
names_to x false (Some (bound Arena, v)) rows word s = rw (s.ends, s.long, s.rule) refl
names_to x false (Some (bound Depth, v)) rows word s = rw (s.ends, s.long, s.rule) refl
names_to x false (Some (bound Steps, v)) rows word s = rw (s.ends, s.long, s.rule) refl

names_fault : (x : Bound) (after : Bool) (last : Last) (rows : List Row) (word : Text) → SeesOption word x None → turn_fault shape [] (between false after last rows) word ≡ []
names_fault x true None rows word s = rw (s.ends, s.long, s.rule) refl
names_fault x true (Some (words, v)) rows word s = rw (s.ends, s.long, s.rule) refl
names_fault x true (Some (bound Arena, v)) rows word s = rw (s.ends, s.long, s.rule) refl
names_fault x true (Some (bound Depth, v)) rows word s = rw (s.ends, s.long, s.rule) refl
names_fault x true (Some (bound Steps, v)) rows word s = rw (s.ends, s.long, s.rule) refl
names_fault x false None rows word s = rw (s.ends, s.long, s.rule) refl
names_fault x false (Some (words, v)) rows word s = rw (s.ends, s.long, s.rule) refl
names_fault x false (Some (bound Arena, v)) rows word s = rw (s.ends, s.long, s.rule) refl
names_fault x false (Some (bound Depth, v)) rows word s = rw (s.ends, s.long, s.rule) refl
names_fault x false (Some (bound Steps, v)) rows word s = rw (s.ends, s.long, s.rule) refl

gives_to : (x : Bound) (value : Text) (after : Bool) (last : Last) (rows : List Row) (word : Text) → SeesOption word x (Some value)
    → walked rules [] (between false after last rows) word ≡ between false false None (used (bound x) value (settle last rows))
unfolding walked
gives_to x value true None rows word s = rw (s.ends, s.long, s.rule) refl
gives_to x value true (Some (words, v)) rows word s = rw (s.ends, s.long, s.rule) refl
gives_to x value true (Some (bound Arena, v)) rows word s = rw (s.ends, s.long, s.rule) refl
gives_to x value true (Some (bound Depth, v)) rows word s = rw (s.ends, s.long, s.rule) refl
gives_to x value true (Some (bound Steps, v)) rows word s = rw (s.ends, s.long, s.rule) refl
gives_to x value false None rows word s = rw (s.ends, s.long, s.rule) refl
gives_to x value false (Some (words, v)) rows word s = rw (s.ends, s.long, s.rule) refl
gives_to x value false (Some (bound Arena, v)) rows word s = rw (s.ends, s.long, s.rule) refl
gives_to x value false (Some (bound Depth, v)) rows word s = rw (s.ends, s.long, s.rule) refl
gives_to x value false (Some (bound Steps, v)) rows word s = rw (s.ends, s.long, s.rule) refl

gives_fault : (x : Bound) (value : Text) (after : Bool) (last : Last) (rows : List Row) (word : Text) → SeesOption word x (Some value) → turn_fault shape [] (between false after last rows) word ≡ []
gives_fault x value true None rows word s = rw (s.ends, s.long, s.rule) refl
gives_fault x value true (Some (words, v)) rows word s = rw (s.ends, s.long, s.rule) refl
gives_fault x value true (Some (bound Arena, v)) rows word s = rw (s.ends, s.long, s.rule) refl
gives_fault x value true (Some (bound Depth, v)) rows word s = rw (s.ends, s.long, s.rule) refl
gives_fault x value true (Some (bound Steps, v)) rows word s = rw (s.ends, s.long, s.rule) refl
gives_fault x value false None rows word s = rw (s.ends, s.long, s.rule) refl
gives_fault x value false (Some (words, v)) rows word s = rw (s.ends, s.long, s.rule) refl
gives_fault x value false (Some (bound Arena, v)) rows word s = rw (s.ends, s.long, s.rule) refl
gives_fault x value false (Some (bound Depth, v)) rows word s = rw (s.ends, s.long, s.rule) refl
gives_fault x value false (Some (bound Steps, v)) rows word s = rw (s.ends, s.long, s.rule) refl

-- ---- what is refused

long_fails : (after : Bool) (last : Last) (rows : List Row) (word : Text) → LongWrong word → Fails (turn_fault shape [] (between false after last rows) word)
long_fails true last rows word s = rw (s.ends, s.long, s.rule) (λ e. cc)
long_fails false last rows word s = rw (s.ends, s.long, s.rule) (λ e. cc)

short_fails : (after : Bool) (last : Last) (rows : List Row) (word : Text) → ShortWrong word → Fails (turn_fault shape [] (between false after last rows) word)
unfolding flags_fault
short_fails true last rows word s = rw (s.ends, s.long, s.short, s.chars) (λ e. cc)
short_fails false last rows word s = rw (s.ends, s.long, s.short, s.chars) (λ e. cc)

-- ---- while an option waits for its value

value_to : (x : Bound) (rows : List Row) (word : Text) → SeesPlain word → walked rules [] (waits false x rows) word ≡ between false false (Some (bound x, word)) rows
unfolding walked
value_to Arena rows word s = rw (s.ends, s.long, s.short) refl
value_to Depth rows word s = rw (s.ends, s.long, s.short) refl
value_to Steps rows word s = rw (s.ends, s.long, s.short) refl

value_fault : (x : Bound) (rows : List Row) (word : Text) → SeesPlain word → turn_fault shape [] (waits false x rows) word ≡ []
value_fault Arena rows word s = rw (s.ends, s.long, s.short) refl
value_fault Depth rows word s = rw (s.ends, s.long, s.short) refl
value_fault Steps rows word s = rw (s.ends, s.long, s.short) refl

-- behind `--` its value is missing, whatever comes
missing_fault : (x : Bound) (rows : List Row) (word : Text) → Fails (turn_fault shape [] (waits true x rows) word)
missing_fault Arena rows word = λ e. cc
missing_fault Depth rows word = λ e. cc
missing_fault Steps rows word = λ e. cc

missing : (x : Bound) (rows : List Row) (ws : List Text) → Fails (fault_left (waits true x rows) ws)
unfolding walk_fault
missing x rows [] = unsettled x rows
missing x rows (word ∷ ws) = left_fails (waits true x rows) word ws (missing_fault x rows word)

ends_waiting : (x : Bound) (rows : List Row) (word : Text) → bytes_eq word (45 ∷ 45 ∷ []) ≡ true → walked rules [] (waits false x rows) word ≡ waits true x rows
unfolding walked
ends_waiting Arena rows word e = rw e refl
ends_waiting Depth rows word e = rw e refl
ends_waiting Steps rows word e = rw e refl

ends_waiting_fault : (x : Bound) (rows : List Row) (word : Text) → bytes_eq word (45 ∷ 45 ∷ []) ≡ true → turn_fault shape [] (waits false x rows) word ≡ []
ends_waiting_fault Arena rows word e = rw e refl
ends_waiting_fault Depth rows word e = rw e refl
ends_waiting_fault Steps rows word e = rw e refl

option_waiting : (x y : Bound) (value : Option Text) (rows : List Row) (word : Text) → SeesOption word y value → Fails (turn_fault shape [] (waits false x rows) word)
option_waiting Arena y None rows word s = rw (s.ends, s.long, s.rule) (λ e. cc)
option_waiting Depth y None rows word s = rw (s.ends, s.long, s.rule) (λ e. cc)
option_waiting Steps y None rows word s = rw (s.ends, s.long, s.rule) (λ e. cc)
option_waiting Arena y (Some v) rows word s = rw (s.ends, s.long, s.rule) (λ e. cc)
option_waiting Depth y (Some v) rows word s = rw (s.ends, s.long, s.rule) (λ e. cc)
option_waiting Steps y (Some v) rows word s = rw (s.ends, s.long, s.rule) (λ e. cc)

long_waiting : (x : Bound) (rows : List Row) (word : Text) → LongWrong word → Fails (turn_fault shape [] (waits false x rows) word)
long_waiting x rows word s = rw (s.ends, s.long, s.rule) (λ e. cc)

short_waiting : (x : Bound) (rows : List Row) (word : Text) → ShortWrong word → Fails (turn_fault shape [] (waits false x rows) word)
unfolding flags_fault
short_waiting x rows word s = rw (s.ends, s.long, s.short, s.chars) (λ e. cc)

no_value : (x : Bound) (rows : List Row) (word : Text) (ws : List Text) (d : Dashed) → Sees word d → Fails (fault_left (waits false x rows) (word ∷ ws))
no_value x rows word ws Ends s =
    subst Fails (sym (left_on (waits false x rows) (waits true x rows) word ws (ends_waiting x rows word s) (ends_waiting_fault x rows word s))) (missing x rows ws)
no_value x rows word ws (Names y) s = left_fails _ word ws (option_waiting x y None rows word s)
no_value x rows word ws (Gives y v) s = left_fails _ word ws (option_waiting x y (Some v) rows word s)
no_value x rows word ws Wrong s = elim s [
  | inl l ↦ left_fails _ word ws (long_waiting x rows word l)
  | inr l ↦ left_fails _ word ws (short_waiting x rows word l)
]

-- ---- all words

behind_goes : (ws : List Text) (after : Bool) (last : Last) (rows : List Row)
    → Goes (Some (only ws)) (settle last rows) (fault_left (between true after last rows) ws) (last_rows (between true after last rows) ws)
unfolding walk_fault
behind_goes [] after last rows =
    (settles last rows, subst (λ (r : List Row). Grows (settle last rows) r (only [])) (sym (settled_is last rows)) (grows_none (settle last rows)))
behind_goes (word ∷ ws) after last rows =
    on_from (Some (only (word ∷ ws))) (settle last rows) (between true after last rows) (between true true (Some (words, word)) (settle last rows)) word ws
    (behind_to after last rows word) (behind_fault after last rows word)
    (with_one (with_word word) (Some (only ws)) (settle last rows) (used words word (settle last rows)) _ _ (λ p g. grows_word word (settle last rows) _ p g)
    (behind_goes ws true (Some (words, word)) (settle last rows)))

-- Where the walk stands, while the option waits or none does.
abbrev standing : Option Bound → Bool → Last → List Row → Walk
standing None after last rows = between false after last rows
standing (Some x) after last rows = waits false x (settle last rows)

abbrev pub AllGo : List Text → Type 0
AllGo ws = (waiting : Option Bound) (after : Bool) (last : Last) (rows : List Row)
    → Goes (parts ws waiting) (settle last rows) (fault_left (standing waiting after last rows) ws) (last_rows (standing waiting after last rows) ws)

abbrev pub AllTexts : List Text → Type 0
AllTexts [] = Unit {0}
AllTexts (word ∷ ws) = IsUtf8 word × AllTexts ws

plain_goes : (word : Text) (ws : List Text) → AllGo ws → SeesPlain word → (waiting : Option Bound) (after : Bool) (last : Last) (rows : List Row)
    → Goes (option_map (λ p. elim waiting [ None ↦ with_word word p | Some x ↦ with_value x word p ]) (parts ws None)) (settle last rows)
    (fault_left (standing waiting after last rows) (word ∷ ws)) (last_rows (standing waiting after last rows) (word ∷ ws))
plain_goes word ws more s None after last rows =
    on_from _ (settle last rows) (between false after last rows) (between false true (Some (words, word)) (settle last rows)) word ws
    (plain_to after last rows word s) (plain_fault after last rows word s)
    (with_one (with_word word) (parts ws None) (settle last rows) (used words word (settle last rows)) _ _ (λ p g. grows_word word (settle last rows) _ p g)
    (more None true (Some (words, word)) (settle last rows)))
plain_goes word ws more s (Some x) after last rows =
    on_from _ (settle last rows) (waits false x (settle last rows)) (between false false (Some (bound x, word)) (settle last rows)) word ws
    (value_to x (settle last rows) word s) (value_fault x (settle last rows) word s)
    (with_one (with_value x word) (parts ws None) (settle last rows) (used (bound x) word (settle last rows)) _ _ (λ p g. grows_value x word (settle last rows) _ p g)
    (more None false (Some (bound x, word)) (settle last rows)))

dashed_goes : (word : Text) (ws : List Text) → AllGo ws → (d : Dashed) → Sees word d → (after : Bool) (last : Last) (rows : List Row)
    → Goes (by_dashed d ws (parts ws)) (settle last rows) (fault_left (between false after last rows) (word ∷ ws)) (last_rows (between false after last rows) (word ∷ ws))
dashed_goes word ws more Ends s after last rows =
    on_from (Some (only ws)) (settle last rows) (between false after last rows) (between true after last rows) word ws
    (ends_to after last rows word s) (ends_fault after last rows word s) (behind_goes ws after last rows)
dashed_goes word ws more (Names x) s after last rows =
    on_from (parts ws (Some x)) (settle last rows) (between false after last rows) (waits false x (settle last rows)) word ws
    (names_to x after last rows word s) (names_fault x after last rows word s) (more (Some x) after last rows)
dashed_goes word ws more (Gives x v) s after last rows =
    on_from _ (settle last rows) (between false after last rows) (between false false None (used (bound x) v (settle last rows))) word ws
    (gives_to x v after last rows word s) (gives_fault x v after last rows word s)
    (with_one (with_value x v) (parts ws None) (settle last rows) (used (bound x) v (settle last rows)) _ _ (λ p g. grows_value x v (settle last rows) _ p g)
    (more None false None (used (bound x) v (settle last rows))))
dashed_goes word ws more Wrong s after last rows = elim s [
  | inl l ↦ left_fails _ word ws (long_fails after last rows word l)
  | inr l ↦ left_fails _ word ws (short_fails after last rows word l)
]

pub all_go : (ws : List Text) → AllTexts ws → AllGo ws
unfolding walk_fault
all_go [] t None after last rows =
    (settles last rows, subst (λ (r : List Row). Grows (settle last rows) r (only [])) (sym (settled_is last rows)) (grows_none (settle last rows)))
all_go [] t (Some x) after last rows = unsettled x (settle last rows)
all_go (word ∷ ws) t waiting after last rows = by_plain (all_go ws t.1) (is_plain word) refl waiting
  where
    by_plain : AllGo ws → (b : Bool) → is_plain word ≡ b → (waiting : Option Bound)
        → Goes (parts (word ∷ ws) waiting) (settle last rows) (fault_left (standing waiting after last rows) (word ∷ ws)) (last_rows (standing waiting after last rows) (word ∷ ws))
    by_plain more true e None = rw e (plain_goes word ws more (plain_seen word e) None after last rows)
    by_plain more true e (Some x) = rw e (plain_goes word ws more (plain_seen word e) (Some x) after last rows)
    by_plain more false e None = rw e (dashed_goes word ws more (dashed word) (dashed_seen word e t.0) after last rows)
    by_plain more false e (Some x) = rw e (no_value x (settle last rows) word ws (dashed word) (dashed_seen word e t.0))
