-- Programs with their limits, and the sources that they are spelled by.
use Rattle.std.proofs.Common.{◌≡◌, ℕ, ◌≤◌, true, List, [], ◌∷◌, ◌++◌, length, Option, Some, None, Ok, Err, refl, sym, ◌∙◌, ap, subst, append_assoc}
use Rattle.std.specs.Prelude.{All}
use Rattle.std.proofs.lemmas.List.Elements.{All-nil, All-cons}
use Rattle.jn_base.specs.declared.token.LexFault.{LexFault}
use Rattle.jn_base.specs.declared.tree.Decl.{Decl}
use Rattle.jn_base.specs.declared.tree.Text.{Text}
use Rattle.jn_base.specs.declared.refusal.Limit.{Limit}
use Rattle.jn_base.specs.declared.word.Lexeme.{Lexeme}
use Rattle.jn_base.specs.Words.{AreWordsOf, last_word}
use Rattle.jn_base.specs.Parts.{Part, lexeme_of}
use Rattle.jn_base.specs.GrammarDecl.{IsProgram}
use Rattle.jn_base.specs.Spelling.{limit_of, Passes, counted, masks, names, SourceSpells, refusal, greatest_source, IsTextRefused, word_refused}
use Rattle.jn_grammar.specs.declared.fault.Fault.{Fault}
use Rattle.jn_grammar.specs.Begins.{lexemes}
use Rattle.jn_grammar.specs.ReadDecls.{tops_in}
use Rattle.jn_grammar.specs.ReadWhole.{program_in}
use Rattle.jn_grammar.specs.Expected.{Tops}
use Rattle.jn_grammar.specs.Places.{IsSpelled}
use Rattle.jn_grammar.specs.TokenLimits.{token_limit, left_of, earlier, checked_in, rule_of, limit_shown, place_left, IsLast, the_end, no_word, AreClean, IsFirstFault}
use Rattle.jn_grammar.proofs.Tools.{lexemes_append}
use Rattle.jn_grammar.proofs.Whole.{only_so}
use Rattle.jn_grammar.proofs.DeclSound.{IsTops}
use Rattle.jn_grammar.proofs.Programs.{tops, whole_of, program_reader}
use Rattle.jn_grammar.proofs.TokenFaults.{TokenPasses, by_masks, by_names, token_limit_at}
use Rattle.jn_grammar.proofs.Refusals.{checked_reads, refused_there}

-- the tree of what is read
pub checked_spelled : (ws : List Lexeme) (x : List Decl × List Lexeme) → checked_in ws ≡ Ok x → IsSpelled IsProgram ws x.0
checked_spelled ws x e = program_reader.sound true 200 ws x (checked_reads ws x e).0

-- ---- a program whose words are clean is read

-- no word of a program passes a limit that the grammar counts, where the words are clean
no_limit : (before : List Part) (p : Part) (behind : List Part) (x : List Decl) → IsProgram (before ++ p ∷ behind) x → AreClean (lexemes (before ++ p ∷ behind)) → limit_of p.role ≡ None
no_limit before p behind x i c = by_limit (limit_of p.role) refl
  where
    by_limit : (l : Option Limit) → limit_of p.role ≡ l → l ≡ None
    by_limit None e = refl
    by_limit (Some l) e = absurd ((c (lexemes before) (lexemes behind) (lexeme_of p) (lexemes_append before (p ∷ behind))).within l
        (counted before p refl refl (record { others = behind; decls = x; is_program = subst (λ (w : List Part). IsProgram w x) (sym (append_assoc before (p ∷ []) behind)) i }) e))

no_limits : (before behind : List Part) (x : List Decl) → IsProgram (before ++ behind) x → AreClean (lexemes (before ++ behind)) → All (λ (t : Part). limit_of t.role ≡ None) behind
no_limits before [] x i c = All-nil (λ (t : Part). limit_of t.role ≡ None)
no_limits before (p ∷ behind) x i c =
    let same : before ++ p ∷ behind ≡ (before ++ p ∷ []) ++ behind = sym (append_assoc before (p ∷ []) behind) in
    All-cons (λ (t : Part). limit_of t.role ≡ None) p behind (no_limit before p behind x i c)
    (no_limits (before ++ p ∷ []) behind x (subst (λ (w : List Part). IsProgram w x) same i) (subst (λ (w : List Part). AreClean (lexemes w)) same c))

token_passes : (front : List Lexeme) (t : Lexeme) (l : Limit) → TokenPasses front t l → Passes front t l
token_passes front t l (by_masks d e) = masks d e
token_passes front t l (by_names n e g few) = names n e g

no_token_limit : (ws : List Lexeme) → AreClean ws → token_limit ws ≡ None
no_token_limit ws c = by_limit (token_limit ws) refl
  where
    by_limit : (o : Option (Limit × ℕ)) → token_limit ws ≡ o → o ≡ None
    by_limit None e = refl
    by_limit (Some l) e = let r = token_limit_at ws l.0 l.1 e in absurd ((c r.front r.others r.word_there r.split).within l.0 (token_passes r.front r.word_there l.0 r.passes))

pub checked_only : (parts : List Part) (x : List Decl) → IsProgram parts x → AreClean (lexemes parts) → checked_in (lexemes parts) ≡ Ok (x, [])
unfolding checked_in
checked_only parts x i c = ap (λ o. earlier o (program_in (lexemes parts))) (no_token_limit (lexemes parts) c)
    ∙ only_so IsTops tops_in Tops tops parts x (whole_of i) (no_limits [] parts x i c)

-- ---- sources

last_is : (bytes : List ℕ) (f : Option LexFault) → IsLast (last_word bytes f).word
last_is bytes None = the_end
last_is bytes (Some f) = no_word

pub source_refused : (bytes : List ℕ) (ns texts : List Text) (ws : List Lexeme) (f : Fault) → length bytes ≤ greatest_source → AreWordsOf bytes ns texts ws → checked_in ws ≡ Err f
    → IsTextRefused bytes (refusal (rule_of f) (place_left ws (left_of f)) (limit_shown f))
source_refused bytes ns texts ws f l a e = word_refused ns texts l a
    (subst (λ (v : List Lexeme). IsFirstFault v f) (sym a.whole)
    (refused_there a.words (last_word bytes a.fault) f (last_is bytes a.fault) (ap checked_in (sym a.whole) ∙ e)))

pub source_spelled : (bytes : List ℕ) (ns texts : List Text) (ws : List Lexeme) (x : List Decl × List Lexeme) → AreWordsOf bytes ns texts ws → checked_in ws ≡ Ok x
    → SourceSpells (record { names = ns; texts = texts; decls = x.0 }) bytes
source_spelled bytes ns texts ws x a e =
    let s = checked_spelled ws x e in
    record { parts = s.parts; are_words = subst (λ (v : List Lexeme). AreWordsOf bytes ns texts v) (sym s.are_words) a; is_program = s.is }
