-- The rows of words.
use Rattle.std.proofs.Common.{◌≡◌, ◌≤◌, ℕ, zero, suc, List, [], ◌∷◌, ◌++◌, take, drop, length, None, true, refl, arith}
use Rattle.std.specs.Char.{encode_utf8}
use Rattle.jn_base.specs.declared.tree.Decl.{Decl}
use Rattle.jn_base.specs.declared.tree.Kind.TheVariants as kind
use Rattle.jn_base.specs.declared.tree.Member.TheVariants as member
use Rattle.jn_base.specs.declared.token.TokenKind.TheVariants as sort
use Rattle.jn_base.specs.declared.word.Keyword.TheVariants.{Class}
use Rattle.jn_base.specs.declared.word.Mark.TheVariants.{OpenBrace, CloseBrace}
use Rattle.jn_base.specs.declared.word.Word.TheVariants as word
use Rattle.jn_base.specs.declared.word.Lexeme.{Lexeme}
use Rattle.jn_base.specs.declared.refusal.Limit.TheVariants as limit
use Rattle.jn_base.specs.ExampleTrees.{name}
use Rattle.jn_base.specs.Tokens.{is_mark, mark as mark_token, token, at_end, TokensOf}
use Rattle.jn_base.specs.Words.{lexeme, no_word, then_word, a_mark, all_mentioned, AreNumbered, AreWordsOf}
use Rattle.jn_base.specs.Parts.{Part, Declares, key, mark, opening, new_name, end_of_file, named}
use Rattle.jn_base.specs.GrammarDecl.{decl, IsInner, IsProgram, inner, top, a_class, no_list, no_member, then_member, declared, no_top, then_top}
use Rattle.jn_base.specs.Spelling.{Begins, Passes, counted, syntax_fault, limit_passed, word_refused}
use Rattle.jn_base.proofs.ExampleFaults.{brace_first}
use Rattle.jn_rules.specs.Verdict.{start_of_file, of_text}
use Rattle.jn_rule_rows.specs.WordRows.{class_word, name_word, opened, WordRows}

-- ---- }

longest_brace : (v others : List ℕ) → is_mark v ≡ true → (125 ∷ []) ++ [] ≡ v ++ others → length v ≤ 1
longest_brace [] others m e = omega arith
longest_brace (c ∷ []) others m e = omega arith
longest_brace (c ∷ d ∷ v) others m e = cc e

brace_lexed : TokensOf (125 ∷ []) (record { kind = sort.Mark; start = 0; end = 1 } ∷ []) None
unfolding encode_utf8 is_mark
brace_lexed = record {
  characters = 125 ∷ [];
  scalars = refl;
  spelled = refl;
  lexed = token {w = 125 ∷ []} {rest = []} (mark_token refl refl longest_brace) at_end;
}

none_numbered : AreNumbered [] []
none_numbered = record { one_number = λ m n t h k. absurd (cc); by_mention = all_mentioned }

abbrev brace_word : Lexeme
brace_word = lexeme (word.Mark CloseBrace) start_of_file

abbrev end_word : Lexeme
end_word = lexeme word.End (record { line = 1; column = 2 })

brace_words : AreWordsOf (125 ∷ []) [] [] (brace_word ∷ end_word ∷ [])
brace_words = record {
  tokens = record { kind = sort.Mark; start = 0; end = 1 } ∷ [];
  fault = None;
  lexed = brace_lexed;
  words = brace_word ∷ [];
  are_words = then_word (a_mark CloseBrace) no_word;
  whole = refl;
  names_numbered = none_numbered;
  texts_numbered = none_numbered;
}

nothing_before : (before behind : List Lexeme) (t : Lexeme) → [] ≡ before ++ t ∷ behind → ⊥
nothing_before [] behind t e = cc e
nothing_before (u ∷ before) behind t e = cc e

-- ---- declarations in one another

-- class A { .. }, with k further ones inside, in the n-th place from outside
abbrev parts_of : (k d n : ℕ) → List Part
parts_of zero d n = key Class start_of_file ∷ (new_name (Declares n) (name 0) start_of_file ∷ (opening d OpenBrace start_of_file ∷ (mark CloseBrace start_of_file ∷ [])))
parts_of (suc k) d n = key Class start_of_file ∷ (new_name (Declares n) (name 0) start_of_file ∷ (opening d OpenBrace start_of_file ∷ ((parts_of k (suc d) (suc n) ++ []) ++ mark CloseBrace start_of_file ∷ [])))

abbrev decl_of : ℕ → Decl
decl_of zero = decl kind.Class (named (name 0) start_of_file) [] [] [] []
decl_of (suc k) = decl kind.Class (named (name 0) start_of_file) [] [] [] (member.Inner (decl_of k) ∷ [])

inner_of : (k d n : ℕ) → IsInner d n (parts_of k d n) (decl_of k)
inner_of zero d n = inner start_of_file start_of_file a_class no_list no_list no_member
inner_of (suc k) d n = inner start_of_file start_of_file a_class no_list no_list (then_member (declared (inner_of k (suc d) (suc n))) no_member)

abbrev whole : List Part
whole = (key Class start_of_file ∷ (new_name (Declares 1) (name 0) start_of_file ∷ (opening 0 OpenBrace start_of_file ∷ ((parts_of 7 1 2 ++ []) ++ mark CloseBrace start_of_file ∷ [])))) ++ end_of_file start_of_file ∷ []

is_program : IsProgram whole (decl_of 8 ∷ [])
is_program = then_top (top start_of_file start_of_file a_class no_list no_list (then_member (declared (inner_of 7 1 2)) no_member)) no_top

ninth : Begins ((opened 8 ++ class_word ∷ []) ++ name_word ∷ [])
ninth = record { parts = take 26 whole; are_words = refl; begins = record { others = drop 26 whole; decls = decl_of 8 ∷ []; is_program = is_program } }

passed : Passes (opened 8 ++ class_word ∷ []) name_word limit.Declarations
passed = counted (take 25 whole) (new_name (Declares 9) (name 0) start_of_file) refl refl
    (record { others = drop 26 whole; decls = decl_of 8 ∷ []; is_program = is_program }) refl

pub word_rows : WordRows
word_rows = record {
  syntax = of_text _ (word_refused [] [] (omega arith) brace_words (record {
    front = [];
    word_there = brace_word;
    others = end_word ∷ [];
    split = refl;
    clean = λ before behind t e. absurd (nothing_before before behind t e);
    refused = syntax_fault (brace_first.bad 1);
    place = refl;
  })) refl;
  declarations = limit_passed ninth (record { passes = passed; first = λ m p. omega arith });
}
