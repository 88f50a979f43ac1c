-- What is read of primaries, parts and operands is in the grammar.
use Rattle.std.proofs.Common.{◌≡◌, ℕ, zero, suc, Bool, true, false, List, [], ◌∷◌, ◌++◌, length, Some, None, Ok, refl, sym, ◌∙◌, ap, subst}
use Rattle.std.specs.Prelude.{◌&&◌}
use Rattle.jn_base.specs.declared.tree.Name.{Name}
use Rattle.jn_base.specs.declared.tree.Place.{Place}
use Rattle.jn_base.specs.declared.tree.Term.{Term}
use Rattle.jn_base.specs.declared.tree.Expr.{Expr}
use Rattle.jn_base.specs.declared.tree.Node.TheVariants as node
use Rattle.jn_base.specs.declared.tree.Suffix.{Suffix}
use Rattle.jn_base.specs.declared.word.Keyword.TheVariants.{False, New, Null, Super, This, True, View}
use Rattle.jn_base.specs.declared.word.Mark.TheVariants.{Bang, CloseBracket, CloseParen, Dot, Minus, OpenBracket, OpenParen}
use Rattle.jn_base.specs.declared.word.Word.{Word}
use Rattle.jn_base.specs.declared.word.Word.TheVariants.{Name as Named_, Keyword as Key, Number, Mark as Marked}
use Rattle.jn_base.specs.declared.word.Lexeme.{Lexeme}
use Rattle.jn_base.specs.Words.{lexeme}
use Rattle.jn_base.specs.Parts.{Part, key, mark, name, number, opening, named, expr, suffix}
use Rattle.jn_base.specs.GrammarTypes.{IsTerm, IsView}
use Rattle.jn_base.specs.GrammarExpr.{IsForm, new_object, super_call, IsPrim, constant, yes, no, null, this_object, variable, parens, form, IsSuffix, field, call, IsSuffixes, no_suffix, then_suffix, IsPost, post, IsUnary, inverse, negative, viewed, unsigned, IsExpr, IsArgs}
use Rattle.jn_grammar.specs.Begins.{begins, behind, place, lexemes}
use Rattle.jn_grammar.specs.Answers.{◌>>=◌, here}
use Rattle.jn_grammar.specs.ReadTypes.{term_in}
use Rattle.jn_grammar.specs.ReadExprs.{begins_view, shut_args_in, call_args_in, new_in, super_call_in, super_in, parens_in, prim_by, prim_in, call_in, suffix_in, post_in, viewed_in, inverse_in, negative_in, unary_in, expr_in, args_in, level}
use Rattle.jn_grammar.proofs.FirstWords.{begins_is, never}
use Rattle.jn_grammar.proofs.Tools.{Below, Sound, sound_bind, sound_if, sound_map, sound_expect, sound_name, glue}
use Rattle.jn_grammar.proofs.Row.{Row, none, next, many_sound}
use Rattle.jn_grammar.proofs.TermsSound.{term_sound, view_sound}

-- What holds of the readers where n more may open.
pub record Sounds (n : ℕ) : Type 0 where
  pub expr_is : (d : ℕ) (ts : List Lexeme) → Sound (IsExpr d (place ts)) ts (expr_in (level n) ts)
  pub unary_is : (d : ℕ) (ts : List Lexeme) → Sound (IsUnary d (place ts)) ts (unary_in (level n) ts)
  pub args_is : (d : ℕ) (ts : List Lexeme) → Sound (IsArgs d) ts (args_in (level n) ts)

-- an opening "(", arguments and ")"
pub data IsCallArgs : ℕ → List Part → List Expr → Type 0 where
  call_args : {d : ℕ} (o c : Place) {w : List Part} {es : List Expr} → IsArgs (suc d) w es → IsCallArgs d (opening d OpenParen o ∷ (w ++ mark CloseParen c ∷ [])) es

pub shut_args_sound : (n : ℕ) → Below Sounds n → (d : ℕ) (ts : List Lexeme) → begins (Marked OpenParen) ts ≡ true → Sound (IsCallArgs d) ts (shut_args_in (level n) ts)
unfolding shut_args_in level
shut_args_sound zero b d ts h = tt
shut_args_sound (suc n) b d ts h = sound_bind (IsArgs (suc d)) (IsCallArgs d) (behind ts) ts _ _ (b.args_is (suc d) (behind ts))
    (λ es tes. sound_expect (IsCallArgs d) (Marked CloseParen) es.1 ts _
    (λ q rest s. record {
      words = opening d OpenParen (place ts) ∷ (tes.words ++ mark CloseParen q ∷ []);
      split = begins_is (Marked OpenParen) ts h ∙ ap (λ (v : List Lexeme). lexeme (Marked OpenParen) (place ts) ∷ v) (glue (behind ts) tes.words (mark CloseParen q ∷ []) es.1 rest tes.split s);
      is = call_args (place ts) q tes.is;
    }))

pub call_args_sound : (n : ℕ) → Below Sounds n → (d : ℕ) (ts : List Lexeme) → Sound (IsCallArgs d) ts (call_args_in (level n) ts)
unfolding call_args_in
call_args_sound n b d ts = sound_if (IsCallArgs d) ts (begins (Marked OpenParen) ts) (shut_args_in (level n) ts) (here ts)
    (λ h. shut_args_sound n b d ts h) (λ h. tt)

at_is : (n d : ℕ) (ts : List Lexeme) → Sound (IsTerm d (place ts)) ts ((level n).term_at ts)
unfolding level
at_is zero d ts = term_sound d 0 ts
at_is (suc n) d ts = term_sound d (suc n) ts

new_is : {d : ℕ} {p q : Place} {v w : List Part} {t : Term} {es : List Expr} → IsTerm d q v t → IsCallArgs d w es → IsForm d p (key New p ∷ (v ++ w)) (expr p (node.New t es))
new_is i (call_args o c j) = new_object o c i j

pub new_sound : (n : ℕ) → Below Sounds n → (d : ℕ) (p : Place) (ts : List Lexeme) → Sound (IsForm d p) (lexeme (Key New) p ∷ ts) (new_in (level n) p ts)
unfolding new_in
new_sound n b d p ts = sound_bind (IsTerm d (place ts)) (IsForm d p) ts (lexeme (Key New) p ∷ ts) _ _ (at_is n d ts)
    (λ t it. sound_bind (IsCallArgs d) (IsForm d p) t.1 (lexeme (Key New) p ∷ ts) _ _ (call_args_sound n b d t.1)
    (λ es tes. record {
      words = key New p ∷ (it.words ++ tes.words);
      split = ap (λ (v : List Lexeme). lexeme (Key New) p ∷ v) (glue ts it.words tes.words t.1 es.1 it.split tes.split);
      is = new_is it.is tes.is;
    }))

super_is : {d : ℕ} {p q : Place} (b s o m : Place) (x : Name) {v w : List Part} {t : Term} {es : List Expr} → IsTerm (suc d) q v t → IsCallArgs d w es
    → IsForm d p (key Super p ∷ opening d OpenBracket b ∷ (v ++ mark CloseBracket s ∷ mark Dot o ∷ name x m ∷ w)) (expr p (node.Super t (named x m) es))
super_is b s o m x i (call_args u c j) = super_call b s o m u c i j

pub super_call_sound : (n : ℕ) → Below Sounds n → (d : ℕ) (p r q : Place) (v : List Part) (t : Term) → IsTerm (suc d) q v t → (ts us : List Lexeme)
    → us ≡ lexemes (key Super p ∷ opening d OpenBracket r ∷ v) ++ ts → Sound (IsForm d p) us (super_call_in (level n) p t ts)
unfolding super_call_in
super_call_sound n b d p r q v t it ts us e =
    sound_expect (IsForm d p) (Marked CloseBracket) ts us _
    (λ s a sa. sound_expect (IsForm d p) (Marked Dot) a us _
    (λ o c sc. sound_name (IsForm d p) c us _
    (λ x m f sf. sound_bind (IsCallArgs d) (IsForm d p) f us _ _ (call_args_sound n b d f)
    (λ es tes. record {
      words = key Super p ∷ opening d OpenBracket r ∷ (v ++ mark CloseBracket s ∷ mark Dot o ∷ name x m ∷ tes.words);
      split = glue us (key Super p ∷ opening d OpenBracket r ∷ v) (mark CloseBracket s ∷ mark Dot o ∷ name x m ∷ tes.words) ts es.1 e
          (sa ∙ ap (λ (i : List Lexeme). lexeme (Marked CloseBracket) s ∷ i) (sc ∙ ap (λ (i : List Lexeme). lexeme (Marked Dot) o ∷ i) (sf ∙ ap (λ (i : List Lexeme). lexeme (Named_ x) m ∷ i) tes.split)));
      is = super_is r s o m x it tes.is;
    }))))

pub super_sound : (n : ℕ) → Below Sounds n → (d : ℕ) (p : Place) (ts : List Lexeme) → Sound (IsForm d p) (lexeme (Key Super) p ∷ ts) (super_in (level n) p ts)
unfolding super_in level
super_sound n b d p ts = sound_if (IsForm d p) (lexeme (Key Super) p ∷ ts) (begins (Marked OpenBracket) ts) _ (here ts) (λ h. by_left n b h) (λ h. tt)
  where
    by_left : (n : ℕ) → Below Sounds n → begins (Marked OpenBracket) ts ≡ true → Sound (IsForm d p) (lexeme (Key Super) p ∷ ts) ((level n).term_of ts >>= λ t. super_call_in (level n) p t.0 t.1)
    by_left zero b h = tt
    by_left (suc n) b h = sound_bind (IsTerm (suc d) (place (behind ts))) (IsForm d p) (behind ts) (lexeme (Key Super) p ∷ ts) (term_in n (behind ts)) _ (term_sound (suc d) n (behind ts))
        (λ t it. super_call_sound (suc n) b d p (place ts) (place (behind ts)) it.words t.0 it.is t.1 (lexeme (Key Super) p ∷ ts)
        (ap (λ (i : List Lexeme). lexeme (Key Super) p ∷ i) (begins_is (Marked OpenBracket) ts h ∙ ap (λ (i : List Lexeme). lexeme (Marked OpenBracket) (place ts) ∷ i) it.split)))

parens_sound : (n : ℕ) → Below Sounds n → (d : ℕ) (p : Place) (ts : List Lexeme) → Sound (IsPrim d p) (lexeme (Marked OpenParen) p ∷ ts) (parens_in (level n) (lexeme (Marked OpenParen) p ∷ ts))
unfolding parens_in level
parens_sound zero b d p ts = tt
parens_sound (suc n) b d p ts = sound_bind (IsExpr (suc d) (place ts)) (IsPrim d p) ts (lexeme (Marked OpenParen) p ∷ ts) _ _ (b.expr_is (suc d) ts)
    (λ e te. sound_expect (IsPrim d p) (Marked CloseParen) e.1 (lexeme (Marked OpenParen) p ∷ ts) _
    (λ q rest s. record {
      words = opening d OpenParen p ∷ (te.words ++ mark CloseParen q ∷ []);
      split = ap (λ (v : List Lexeme). lexeme (Marked OpenParen) p ∷ v) (glue ts te.words (mark CloseParen q ∷ []) e.1 rest te.split s);
      is = parens q te.is;
    }))

pub prim_sound : (n : ℕ) → Below Sounds n → (d : ℕ) (ts : List Lexeme) → Sound (IsPrim d (place ts)) ts (prim_in (level n) ts)
unfolding prim_in prim_by
prim_sound n b d [] = tt
prim_sound n b d (t ∷ ts) = by_word t.word
  where
    by_word : (k : Word) → Sound (IsPrim d t.at) (lexeme k t.at ∷ ts) (prim_by (level n) k (lexeme k t.at) ts)
    by_word (Number v) = record { words = number v t.at ∷ []; split = refl; is = constant }
    by_word (Named_ x) = record { words = name x t.at ∷ []; split = refl; is = variable }
    by_word (Key True) = record { words = key True t.at ∷ []; split = refl; is = yes }
    by_word (Key False) = record { words = key False t.at ∷ []; split = refl; is = no }
    by_word (Key Null) = record { words = key Null t.at ∷ []; split = refl; is = null }
    by_word (Key This) = record { words = key This t.at ∷ []; split = refl; is = this_object }
    by_word (Key New) = sound_map (IsForm d t.at) (IsPrim d t.at) (lexeme (Key New) t.at ∷ ts) (new_in (level n) t.at ts) (λ w x. form) (new_sound n b d t.at ts)
    by_word (Key Super) = sound_map (IsForm d t.at) (IsPrim d t.at) (lexeme (Key Super) t.at ∷ ts) (super_in (level n) t.at ts) (λ w x. form) (super_sound n b d t.at ts)
    by_word (Marked OpenParen) = parens_sound n b d t.at ts
    by_word k = tt

call_is : {d : ℕ} {x : Name} {o p : Place} {w : List Part} {es : List Expr} → IsCallArgs d w es → IsSuffix d (mark Dot o ∷ name x p ∷ w) (suffix x p (Some es))
call_is (call_args q c i) = call c i

pub call_sound : (n : ℕ) → Below Sounds n → (d : ℕ) (o : Place) (x : Name) (p : Place) (ts : List Lexeme)
    → Sound (IsSuffix d) (lexeme (Marked Dot) o ∷ lexeme (Named_ x) p ∷ ts) (call_in (level n) (named x p) ts)
unfolding call_in
call_sound n b d o x p ts = sound_if (IsSuffix d) (lexeme (Marked Dot) o ∷ lexeme (Named_ x) p ∷ ts) (begins (Marked OpenParen) ts) _ (Ok (suffix x p None, ts))
    (λ h. sound_bind (IsCallArgs d) (IsSuffix d) ts (lexeme (Marked Dot) o ∷ lexeme (Named_ x) p ∷ ts) _ _ (shut_args_sound n b d ts h)
    (λ es tes. record { words = mark Dot o ∷ name x p ∷ tes.words; split = ap (λ (v : List Lexeme). lexeme (Marked Dot) o ∷ lexeme (Named_ x) p ∷ v) tes.split; is = call_is tes.is }))
    (λ h. record { words = mark Dot o ∷ name x p ∷ []; split = refl; is = field })

pub suffix_sound : (n : ℕ) → Below Sounds n → (d k : ℕ) (ts : List Lexeme) → begins (Marked Dot) ts ≡ true → Sound (IsSuffix d) ts (suffix_in (level n) k ts)
unfolding suffix_in
suffix_sound n b d k ts h = sound_name (IsSuffix d) (behind ts) ts _
    (λ x p rest s. subst (λ (v : List Lexeme). Sound (IsSuffix d) v (call_in (level n) (named x p) rest))
    (sym (begins_is (Marked Dot) ts h ∙ ap (λ (v : List Lexeme). lexeme (Marked Dot) (place ts) ∷ v) s)) (call_sound n b d (place ts) x p rest))

pub suffixes_of : {d k : ℕ} {w : List Part} {ss : List Suffix} → Row (λ _. IsSuffix d) k w ss → IsSuffixes d w ss
suffixes_of none = no_suffix
suffixes_of (next i is) = then_suffix i (suffixes_of is)

pub post_sound : (n : ℕ) → Below Sounds n → (d : ℕ) (ts : List Lexeme) → Sound (IsPost d (place ts)) ts (post_in (level n) ts)
unfolding post_in
post_sound n b d ts = sound_bind (IsPrim d (place ts)) (IsPost d (place ts)) ts ts _ _ (prim_sound n b d ts)
    (λ e te. sound_bind (Row (λ _. IsSuffix d) 1) (IsPost d (place ts)) e.1 ts _ _ (many_sound (λ _. IsSuffix d) (begins (Marked Dot)) (suffix_in (level n)) (suffix_sound n b d) (length e.1) 1 e.1)
    (λ ss tss. record { words = te.words ++ tss.words; split = glue _ _ _ _ _ te.split tss.split; is = post te.is (suffixes_of tss.is) }))

both : (a c : Bool) → (a && c) ≡ true → (a ≡ true) × (c ≡ true)
both true true h = (refl, refl)
both true false h = absurd (never h)
both false c h = absurd (never h)

pub viewed_sound : (n : ℕ) → Below Sounds n → (d : ℕ) (ts : List Lexeme) → begins_view ts ≡ true → Sound (IsUnary d (place ts)) ts (viewed_in (level n) ts)
unfolding viewed_in level
viewed_sound zero b d ts h = tt
viewed_sound (suc n) b d ts h =
    let two = both (begins (Marked OpenParen) ts) (begins (Key View) (behind ts)) h in
    let p : Place = place ts in
    let o : Place = place (behind ts) in
    sound_bind (IsView (suc d)) (IsUnary d p) (behind (behind ts)) ts _ _ (view_sound (suc d) n (behind (behind ts)))
    (λ t it. sound_expect (IsUnary d p) (Marked CloseParen) t.1 ts _
    (λ c rest s. sound_bind (IsUnary (suc d) (place rest)) (IsUnary d p) rest ts _ _ (b.unary_is (suc d) rest)
    (λ e te. record {
      words = opening d OpenParen p ∷ key View o ∷ (it.words ++ mark CloseParen c ∷ te.words);
      split = begins_is (Marked OpenParen) ts two.0 ∙ ap (λ (v : List Lexeme). lexeme (Marked OpenParen) p ∷ v) (begins_is (Key View) (behind ts) two.1
          ∙ ap (λ (v : List Lexeme). lexeme (Key View) o ∷ v) (glue (behind (behind ts)) it.words (mark CloseParen c ∷ te.words) t.1 e.1 it.split (s ∙ ap (λ (v : List Lexeme). lexeme (Marked CloseParen) c ∷ v) te.split)));
      is = viewed o c it.is te.is;
    })))

pub inverse_sound : (n : ℕ) → Below Sounds n → (d : ℕ) (ts : List Lexeme) → begins (Marked Bang) ts ≡ true → Sound (IsUnary d (place ts)) ts (inverse_in (level n) ts)
unfolding inverse_in level
inverse_sound zero b d ts h = tt
inverse_sound (suc n) b d ts h = sound_bind (IsUnary (suc d) (place (behind ts))) (IsUnary d (place ts)) (behind ts) ts _ _ (b.unary_is (suc d) (behind ts))
    (λ e te. record { words = opening d Bang (place ts) ∷ te.words; split = begins_is (Marked Bang) ts h ∙ ap (λ (v : List Lexeme). lexeme (Marked Bang) (place ts) ∷ v) te.split; is = inverse te.is })

pub negative_sound : (n : ℕ) → Below Sounds n → (d : ℕ) (ts : List Lexeme) → begins (Marked Minus) ts ≡ true → Sound (IsUnary d (place ts)) ts (negative_in (level n) ts)
unfolding negative_in level
negative_sound zero b d ts h = tt
negative_sound (suc n) b d ts h = sound_bind (IsUnary (suc d) (place (behind ts))) (IsUnary d (place ts)) (behind ts) ts _ _ (b.unary_is (suc d) (behind ts))
    (λ e te. record { words = opening d Minus (place ts) ∷ te.words; split = begins_is (Marked Minus) ts h ∙ ap (λ (v : List Lexeme). lexeme (Marked Minus) (place ts) ∷ v) te.split; is = negative te.is })

pub unary_sound : (n : ℕ) → Below Sounds n → (d : ℕ) (ts : List Lexeme) → Sound (IsUnary d (place ts)) ts (unary_in (level n) ts)
unfolding unary_in
unary_sound n b d ts = sound_if (IsUnary d (place ts)) ts (begins (Marked Bang) ts) (inverse_in (level n) ts) _ (λ h. inverse_sound n b d ts h)
    (λ _. sound_if (IsUnary d (place ts)) ts (begins (Marked Minus) ts) (negative_in (level n) ts) _ (λ h. negative_sound n b d ts h)
    (λ _. sound_if (IsUnary d (place ts)) ts (begins_view ts) (viewed_in (level n) ts) (post_in (level n) ts) (λ h. viewed_sound n b d ts h)
    (λ _. sound_map (IsPost d (place ts)) (IsUnary d (place ts)) ts (post_in (level n) ts) (λ w x. unsigned) (post_sound n b d ts))))
