-- Worked sources: places, texts with escapes, and the programs that two short sources spell.
use Rattle.std.specs.Prelude.{◌≡◌, ◌==◌, ℕ, not, [], ◌∷◌, None}
use Rattle.std.proofs.Common.{refl}
use Rattle.std.specs.Char.{encode_utf8}
use Rattle.std.proofs.lemmas.List.Sums.{AllPass-from_list_all}
use Rattle.jn_base.specs.declared.tree.Place.{Place}
use Rattle.jn_base.specs.declared.tree.Program.{Program}
use Rattle.jn_base.specs.Tokens.{backslash, letter_n, line_feed, quote, slash, at_end, blank, comment, to_line_end, TokensOf}
use Rattle.jn_base.specs.Places.{place_of}
use Rattle.jn_base.specs.Words.{Reads, nothing, plain, escaped_quote, escaped_backslash, escaped_line_feed, no_word, all_mentioned, AreNumbered}
use Rattle.jn_base.specs.Parts.{end_of_file}
use Rattle.jn_base.specs.GrammarDecl.{no_top}
use Rattle.jn_base.specs.Spelling.{SourceSpells}

abbrev place : ℕ → ℕ → Place
place line column = record { line = line; column = column }

-- "ab", line feed, tab, "c": the first byte, the b, the line feed, the tab, the c, and the end
pub first_byte : place_of (97 ∷ 98 ∷ 10 ∷ 9 ∷ 99 ∷ []) 0 ≡ place 1 1
first_byte = refl

pub second_byte : place_of (97 ∷ 98 ∷ 10 ∷ 9 ∷ 99 ∷ []) 1 ≡ place 1 2
second_byte = refl

pub line_end : place_of (97 ∷ 98 ∷ 10 ∷ 9 ∷ 99 ∷ []) 2 ≡ place 1 3
line_end = refl

pub next_line : place_of (97 ∷ 98 ∷ 10 ∷ 9 ∷ 99 ∷ []) 3 ≡ place 2 1
next_line = refl

pub behind_tab : place_of (97 ∷ 98 ∷ 10 ∷ 9 ∷ 99 ∷ []) 4 ≡ place 2 2
behind_tab = refl

pub end_place : place_of (97 ∷ 98 ∷ 10 ∷ 9 ∷ 99 ∷ []) 5 ≡ place 2 3
end_place = refl

-- a character of two bytes takes two columns
pub behind_two_bytes : place_of (195 ∷ 182 ∷ 99 ∷ []) 2 ≡ place 1 3
behind_two_bytes = refl

-- a\"\\\n reads as a, a quote, a backslash and a line feed
pub escapes : Reads (97 ∷ backslash ∷ quote ∷ backslash ∷ backslash ∷ backslash ∷ letter_n ∷ []) (97 ∷ quote ∷ backslash ∷ line_feed ∷ [])
escapes = plain refl (escaped_quote (escaped_backslash (escaped_line_feed nothing)))

none_numbered : AreNumbered [] []
none_numbered = record { one_number = λ m n t h k. absurd (cc); by_mention = all_mentioned }

abbrev empty : Program
empty = record { names = []; texts = []; decls = [] }

-- no byte: a program without declarations
pub nothing_spelled : SourceSpells empty []
nothing_spelled = record {
  parts = end_of_file (place 1 1) ∷ [];
  are_words = record {
    tokens = [];
    fault = None;
    lexed = record { characters = []; scalars = refl; spelled = refl; lexed = at_end };
    words = [];
    are_words = no_word;
    whole = refl;
    names_numbered = none_numbered;
    texts_numbered = none_numbered;
  };
  is_program = no_top;
}

comment_lexed : TokensOf (slash ∷ slash ∷ 97 ∷ 10 ∷ []) [] None
unfolding encode_utf8
comment_lexed = record {
  characters = slash ∷ slash ∷ 97 ∷ 10 ∷ [];
  scalars = refl;
  spelled = refl;
  lexed = comment {w = slash ∷ slash ∷ 97 ∷ []} {rest = 10 ∷ []}
      (to_line_end {w = 97 ∷ []} {rest = 10 ∷ []} (AllPass-from_list_all (λ c. not (c == line_feed)) (97 ∷ []) refl) refl) (blank {c = 10} refl at_end);
}

-- a comment and a line feed: the end stands behind them, in line 2
pub comment_spelled : SourceSpells empty (slash ∷ slash ∷ 97 ∷ 10 ∷ [])
comment_spelled = record {
  parts = end_of_file (place 2 1) ∷ [];
  are_words = record {
    tokens = [];
    fault = None;
    lexed = comment_lexed;
    words = [];
    are_words = no_word;
    whole = refl;
    names_numbered = none_numbered;
    texts_numbered = none_numbered;
  };
  is_program = no_top;
}
