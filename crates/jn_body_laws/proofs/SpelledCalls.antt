-- The call statements and the texts of a program that a source spells.
use Rattle.std.proofs.Common.{◌≡◌, ℕ, List, [], ◌∷◌, map, sym, ap, ◌∙◌, subst, ◌⊎◌, inl, inr, Contains, Option, Some, None, refl}
use Rattle.std.specs.List.{slice_get}
use Rattle.std.proofs.lemmas.Option.{same_Some}
use Rattle.std.proofs.lemmas.List.Elements.{Contains-append_cases}
use Rattle.jn_base.specs.declared.tree.Text.{Text}
use Rattle.jn_base.specs.declared.tree.Place.{Place}
use Rattle.jn_base.specs.declared.tree.Program.{Program}
use Rattle.jn_base.specs.declared.tree.Expr.{Expr}
use Rattle.jn_base.specs.declared.tree.Suffix.{Suffix}
use Rattle.jn_base.specs.declared.tree.Node.TheVariants.{outs-New, outs-Super, outs-Post}
use Rattle.jn_base.specs.declared.tree.Stmt.{Stmt}
use Rattle.jn_base.specs.declared.tree.Stmt.TheVariants as stmt
use Rattle.jn_base.specs.declared.tree.Stmt.TheVariants.{outs-Block, outs-Local, outs-Assign, outs-Set, outs-Do, outs-If, outs-While, outs-Return, outs-Print, outs-PrintText}
use Rattle.jn_base.specs.declared.token.Token.{Token}
use Rattle.jn_base.specs.declared.token.TokenKind.{TokenKind}
use Rattle.jn_base.specs.declared.token.LexFault.{LexFault}
use Rattle.jn_base.specs.declared.word.Word.{Word}
use Rattle.jn_base.specs.declared.word.Lexeme.{Lexeme}
use Rattle.jn_base.specs.Words.{IsWord, AreWords, AreWordsOf, text_number, text_of, last_word}
use Rattle.jn_base.specs.Words.{text as text_with}
use Rattle.jn_base.specs.Parts.{Part, lexeme_of, named, posted, text}
use Rattle.jn_base.specs.Forms.{all_of}
use Rattle.jn_base.specs.Atoms.{Among, first, later}
use Rattle.jn_base.specs.GrammarExpr.{IsForm, IsCall, EndsInCall}
use Rattle.jn_base.specs.GrammarStmt.{IsStmt, IsElse, IsStmts}
use Rattle.jn_base.proofs.NameTests.{in_cons, in_none, first as in_first, later as in_later}
use Rattle.jn_laws.proofs.Lists.{among_left, among_right}
use Rattle.jn_body_laws.specs.BodyForms.{CallNode, IsCallForm, Calls, Prints, uses}
use Rattle.jn_body_laws.proofs.ListedForms.{uses_from, UsesFormed, no_uses, one_use, both_uses, uses_by}

-- ---- calls

posted_call : (p : Place) (e : Expr) (ss : List Suffix) → EndsInCall ss → IsCallForm (posted p e ss)
posted_call p e [] n = absurd n
posted_call p e (s ∷ ss) n = subst CallNode (sym (outs-Post e (s ∷ ss))) n

form_call : {d : ℕ} {p : Place} {w : List Part} {e : Expr} → IsForm d p w e → IsCallForm e
form_call (IsForm.new_object o c {t = t} {es = es} i given) = subst CallNode (sym (outs-New t es)) tt
form_call (IsForm.super_call b s o n u c {x = x} {t = t} {es = es} i given) =
    subst CallNode (sym (outs-Super t (named x n) es)) tt

call_form : {d : ℕ} {w : List Part} {e : Expr} → IsCall d w e → IsCallForm e
call_form (IsCall.called {p = p} {e = e} {ss = ss} i more n) = posted_call p e ss n
call_form (IsCall.formed i) = form_call i

-- ---- texts among the words

abbrev TextThere : List Text → ℕ → Type 0
TextThere texts n = (u : Text) × (slice_get texts n ≡ Some u)

word_there : (names texts : List Text) (k : TokenKind) (w : List ℕ) (x : Word) (n : ℕ) → IsWord names texts k w x
    → text_number x ≡ Some n → TextThere texts n
word_there names texts _ w _ n (IsWord.a_name {n = m} there) e = absurd (cc)
word_there names texts _ _ _ n (IsWord.a_keyword k) e = absurd (cc)
word_there names texts _ w _ n IsWord.a_number e = absurd (cc)
word_there names texts _ _ _ n (IsWord.a_text {n = m} {read = r} reads there) e =
    (text_with r, subst (λ (i : ℕ). slice_get texts i ≡ Some (text_with r)) (same_Some _ _ e) there)
word_there names texts _ _ _ n (IsWord.a_mark m) e = absurd (cc)

words_there : (bytes : List ℕ) (names texts : List Text) (ts : List Token) (ws : List Lexeme)
    → AreWords bytes names texts ts ws → (w : Lexeme) → Contains ws w → (n : ℕ) → text_number w.word ≡ Some n
    → TextThere texts n
words_there bytes names texts _ _ AreWords.no_word w c n e = absurd (in_none w c)
words_there bytes names texts (t ∷ ts) (v ∷ ws) (AreWords.then_word is more) w c n e =
    at (in_cons v ws w c) (λ h. words_there bytes names texts ts ws more w h n e) where
      at : (v ≡ w) ⊎ Contains ws w → (Contains ws w → TextThere texts n) → TextThere texts n
      at (inl same) again = word_there names texts t.kind (text_of bytes t) w.word n
          (subst (λ (y : Lexeme). IsWord names texts t.kind (text_of bytes t) y.word) same is) e
      at (inr h) again = again h

no_text_last : (bytes : List ℕ) (f : Option LexFault) (n : ℕ) → text_number (last_word bytes f).word ≡ Some n → ⊥
no_text_last bytes None n e = cc
no_text_last bytes (Some f) n e = cc

part_among : (w : List Part) (t : Part) → Contains w t → Contains (map lexeme_of w) (lexeme_of t)
part_among [] t c = absurd (in_none t c)
part_among (s ∷ w) t c = at (in_cons s w t c) (part_among w t) where
  at : (s ≡ t) ⊎ Contains w t → (Contains w t → Contains (map lexeme_of w) (lexeme_of t))
      → Contains (map lexeme_of (s ∷ w)) (lexeme_of t)
  at (inl same) again = subst (λ (x : Part). Contains (map lexeme_of (s ∷ w)) (lexeme_of x)) same
      (in_first (lexeme_of s) (map lexeme_of w))
  at (inr h) again = in_later (lexeme_of s) (map lexeme_of w) (lexeme_of t) (again h)

-- a text of the source is one of the program's
pub texts_there : (bytes : List ℕ) (names texts : List Text) (w : List Part)
    → AreWordsOf bytes names texts (map lexeme_of w) → (t : Part) → Contains w t → (n : ℕ)
    → text_number t.word ≡ Some n → TextThere texts n
texts_there bytes names texts w of t c n e =
    at (Contains-append_cases of.words (last_word bytes of.fault ∷ []) (lexeme_of t)
    (subst (λ (ws : List Lexeme). Contains ws (lexeme_of t)) of.whole (part_among w t c))) where
      last : (last_word bytes of.fault ≡ lexeme_of t) ⊎ Contains [] (lexeme_of t) → TextThere texts n
      last (inl same) =
          absurd (no_text_last bytes of.fault n (ap (λ (y : Lexeme). text_number y.word) same ∙ e))
      last (inr none) = absurd (in_none (lexeme_of t) none)

      at : Contains of.words (lexeme_of t) ⊎ Contains (last_word bytes of.fault ∷ []) (lexeme_of t)
          → TextThere texts n
      at (inl h) = words_there bytes names texts of.tokens of.words of.are_words (lexeme_of t) h n e
      at (inr h) = last (in_cons (last_word bytes of.fault) [] (lexeme_of t) h)

-- ---- statements

module _ (p : Program) (all : List Part)
    (there : (t : Part) → Contains all t → (n : ℕ) → text_number t.word ≡ Some n
    → (u : Text) × (slice_get p.texts n ≡ Some u)) where
  abbrev InAll : List Part → Type 0
  InAll w = (t : Part) → Among w t → Contains all t

  mutual
    stmt_uses : {d k m : ℕ} {w : List Part} {s : Stmt} → IsStmt d k w s m → InAll w → UsesFormed p (uses s)
    stmt_uses (IsStmt.block c {w = w} {ss = ss} i) h =
        uses_by p (stmt.Block ss) _ (uses_from _ _ (outs-Block ss))
        (stmts_uses i (λ t a. h t (later (among_left w _ a))))
    stmt_uses (IsStmt.local {x = x} {p = q} o s {fixed = fixed} {t = t} {e = e} f i j) h =
        uses_by p (stmt.Local fixed t (named x q) e) _ (uses_from _ _ (outs-Local fixed t (named x q) e)) (no_uses p)
    stmt_uses (IsStmt.assign {x = x} {p = q} s {e = e} i) h =
        uses_by p (stmt.Assign (named x q) e) _ (uses_from _ _ (outs-Assign (named x q) e)) (no_uses p)
    stmt_uses (IsStmt.set_field {x = x} b n o s {t = t} {e = e} i j) h =
        uses_by p (stmt.Set t (named x n) e) _ (uses_from _ _ (outs-Set t (named x n) e)) (no_uses p)
    stmt_uses (IsStmt.act s {e = e} i) h =
        uses_by p (stmt.Do e) _ (uses_from _ _ (outs-Do e)) (one_use p (Calls e) (call_form i))
    stmt_uses (IsStmt.choice {p = q} c b e {v = v} {w = w} {u = u} {t = t} {ss = ss} {rs = rs} i j k) h =
        uses_by p (stmt.If t ss rs q) _ (uses_from _ _ (outs-If t ss rs q))
        (both_uses p (all_of (map uses ss)) (all_of (map uses rs))
        (stmts_uses j (λ z a. h z (later (later (among_right v _ (later (later (among_left w _ a))))))))
        (else_uses k (λ z a. h z (later (later (among_right v _ (later (later (among_right w _ (later a))))))))))
    stmt_uses (IsStmt.turns {p = q} c b e {v = v} {w = w} {t = t} {ss = ss} i j) h =
        uses_by p (stmt.While t ss q) _ (uses_from _ _ (outs-While t ss q))
        (stmts_uses j (λ z a. h z (later (later (among_right v _ (later (later (among_left w _ a))))))))
    stmt_uses (IsStmt.leave {p = q}) h =
        uses_by p (stmt.Return None q) _ (uses_from _ _ (outs-Return None q)) (no_uses p)
    stmt_uses (IsStmt.give {p = q} s {e = e} i) h =
        uses_by p (stmt.Return (Some e) q) _ (uses_from _ _ (outs-Return (Some e) q)) (no_uses p)
    stmt_uses (IsStmt.print {p = q} c s {e = e} i) h =
        uses_by p (stmt.Print e q) _ (uses_from _ _ (outs-Print e q)) (no_uses p)
    stmt_uses (IsStmt.print_text {n = n} {p = q} {q = r}) h =
        uses_by p (stmt.PrintText n q) _ (uses_from _ _ (outs-PrintText n q))
        (one_use p (Prints n) (there (text n r) (h (text n r) (later (later first))) n refl))

    else_uses : {d k m : ℕ} {w : List Part} {ss : List Stmt} → IsElse d k w ss m → InAll w
        → UsesFormed p (all_of (map uses ss))
    else_uses IsElse.no_else h = no_uses p
    else_uses (IsElse.otherwise c {w = w} i) h = stmts_uses i (λ t a. h t (later (later (among_left w _ a))))

    pub stmts_uses : {d k m : ℕ} {w : List Part} {ss : List Stmt} → IsStmts d k w ss m → InAll w
        → UsesFormed p (all_of (map uses ss))
    stmts_uses IsStmts.no_stmt h = no_uses p
    stmts_uses (IsStmts.then_stmt {v = v} {w = w} {s = s} {ss = ss} i more) h =
        both_uses p (uses s) (all_of (map uses ss)) (stmt_uses i (λ t a. h t (among_left v w a)))
        (stmts_uses more (λ t a. h t (among_right v w a)))
