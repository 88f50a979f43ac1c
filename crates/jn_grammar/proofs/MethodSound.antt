-- What is read of parameters, constraints, lists of names and methods is in the grammar.
use Rattle.std.proofs.Common.{◌≡◌, ℕ, zero, suc, Bool, true, false, List, [], ◌∷◌, ◌++◌, length, Option, Some, None, Ok, Err, refl, sym, ◌∙◌, ap, subst, append_assoc, if◌then◌else◌}
use Rattle.jn_base.specs.declared.tree.Name.{Name}
use Rattle.jn_base.specs.declared.tree.Place.{Place}
use Rattle.jn_base.specs.declared.tree.Named.{Named}
use Rattle.jn_base.specs.declared.tree.Kind.TheVariants as kind
use Rattle.jn_base.specs.declared.tree.TypeTerm.{TypeTerm}
use Rattle.jn_base.specs.declared.tree.Param.{Param}
use Rattle.jn_base.specs.declared.tree.Constraint.{Constraint}
use Rattle.jn_base.specs.declared.tree.Stmt.{Stmt}
use Rattle.jn_base.specs.declared.tree.Member.TheVariants as member
use Rattle.jn_base.specs.declared.word.Keyword.{Keyword}
use Rattle.jn_base.specs.declared.word.Keyword.TheVariants.{Final, Sharing, Void}
use Rattle.jn_base.specs.declared.word.Mark.TheVariants.{Ampersand, Arrow, CloseBrace, CloseParen, Comma, OpenBrace, OpenParen, Semicolon}
use Rattle.jn_base.specs.declared.word.Word.TheVariants.{Name as Named_, Keyword as Key, Mark as Marked}
use Rattle.jn_base.specs.declared.word.Lexeme.{Lexeme}
use Rattle.jn_base.specs.Words.{lexeme}
use Rattle.jn_base.specs.Parts.{Part, Parameter, key, mark, name, opening, named}
use Rattle.jn_base.specs.GrammarTypes.{IsType, IsView}
use Rattle.jn_base.specs.GrammarStmt.{IsFinal, not_final, final}
use Rattle.jn_base.specs.GrammarDecl.{IsParam, param, IsMoreParams, no_more_param, then_param, IsParams, no_param, params, IsRel, rel, IsMoreRels, no_more_rel, then_rel, IsSharing, no_sharing, sharing, IsResult, no_result, result, IsListed, last_name, then_name, IsList, no_list, list, IsMember, slot, method}
use Rattle.jn_grammar.specs.Begins.{begins, behind, place, lexemes}
use Rattle.jn_grammar.specs.Answers.{Answer, ◌>>=◌, here, name_in}
use Rattle.jn_grammar.specs.ReadDecls.{final_in, param_in, next_param_in, params_in, params_of, rel_in, next_rel_in, sharing_in, next_name_in, listed_in, list_in, method_in, void_in, typed_end_in, typed_in}
use Rattle.jn_grammar.proofs.FirstWords.{begins_is}
use Rattle.jn_grammar.proofs.Tools.{Sound, sound_bind, sound_if, sound_expect, sound_name, glue}
use Rattle.jn_grammar.proofs.Row.{Row, none, next, many_sound}
use Rattle.jn_grammar.proofs.TermsSound.{view_sound, type_sound}
use Rattle.jn_grammar.proofs.LocalSound.{IsNewName, one_new_name, new_name_sound}
use Rattle.jn_grammar.proofs.StmtSound.{IsBlock, braced, block_sound, stmt_sounds_below}

-- behind a mark: the item without it
pub data IsAfter {A : Type 0} (m : Part → Type 0) (Is : List Part → A → Type 0) : List Part → A → Type 0 where
  after : {t : Part} {w : List Part} {x : A} → m t → Is w x → IsAfter m Is (t ∷ w) x

pub data IsComma : Part → Type 0 where
  a_comma : {o : Place} → IsComma (mark Comma o)

pub comma_sound : {A : Type 0} (Is : List Part → A → Type 0) (ts : List Lexeme) (r : Answer A) → begins (Marked Comma) ts ≡ true → Sound Is (behind ts) r → Sound (IsAfter IsComma Is) ts r
comma_sound Is ts (Ok x) h s = record { words = mark Comma (place ts) ∷ s.words; split = begins_is (Marked Comma) ts h ∙ ap (λ (v : List Lexeme). lexeme (Marked Comma) (place ts) ∷ v) s.split; is = after a_comma s.is }
comma_sound Is ts (Err f) h s = tt

-- ---- parameters

pub final_is : (ts : List Lexeme) → IsFinal (if begins (Key Final) ts then key Final (place ts) ∷ [] else []) (final_in ts).0
final_is ts = by_bool (begins (Key Final) ts)
  where
    by_bool : (c : Bool) → let r : Bool × List Lexeme = if c then (true, behind ts) else (false, ts) in IsFinal (if c then key Final (place ts) ∷ [] else []) r.0
    by_bool true = final
    by_bool false = not_final

pub final_split : (ts : List Lexeme) → ts ≡ lexemes (if begins (Key Final) ts then key Final (place ts) ∷ [] else []) ++ (final_in ts).1
final_split ts = by_bool (begins (Key Final) ts) (begins_is (Key Final) ts)
  where
    by_bool : (c : Bool) → (c ≡ true → ts ≡ lexeme (Key Final) (place ts) ∷ behind ts) → let r : Bool × List Lexeme = if c then (true, behind ts) else (false, ts) in ts ≡ lexemes (if c then key Final (place ts) ∷ [] else []) ++ r.1
    by_bool true h = h refl
    by_bool false h = refl

param_of : {d k : ℕ} {u v w : List Part} {fixed : Bool} {t : TypeTerm} {x : Named} → IsFinal u fixed → IsType d v t → IsNewName (Parameter k) w x
    → IsParam d k (u ++ (v ++ w)) (record { fixed = fixed; ty = t; name = x })
param_of f i (one_new_name {p = p}) = param p f i

pub param_sound : (s : Bool) (n d k : ℕ) (ts : List Lexeme) → Sound (IsParam d k) ts (param_in s n k ts)
unfolding param_in
param_sound s n d k ts =
    let u : List Part = if begins (Key Final) ts then key Final (place ts) ∷ [] else [] in
    sound_bind (IsType d) (IsParam d k) (final_in ts).1 ts _ _ (type_sound s d n (final_in ts).1)
    (λ ty t. sound_bind (IsNewName (Parameter k)) (IsParam d k) ty.1 ts _ _ (new_name_sound s (Parameter k) ty.1)
    (λ x tx. record {
      words = u ++ (t.words ++ tx.words);
      split = glue ts u (t.words ++ tx.words) (final_in ts).1 x.1 (final_split ts) (glue (final_in ts).1 t.words tx.words ty.1 x.1 t.split tx.split);
      is = param_of (final_is ts) t.is tx.is;
    }))

pub next_param_sound : (s : Bool) (n d k : ℕ) (ts : List Lexeme) → begins (Marked Comma) ts ≡ true → Sound (IsAfter IsComma (IsParam d k)) ts (next_param_in s n k ts)
unfolding next_param_in
next_param_sound s n d k ts h = comma_sound (IsParam d k) ts (param_in s n k (behind ts)) h (param_sound s n d k (behind ts))

more_params_of : {d k : ℕ} {w : List Part} {ps : List Param} → Row (λ i. IsAfter IsComma (IsParam d i)) k w ps → IsMoreParams d k w ps
more_params_of none = no_more_param
more_params_of (next (after a_comma i) is) = then_param i (more_params_of is)

params_sound : (s : Bool) (n d : ℕ) (ts : List Lexeme) → Sound (IsParams d) ts (params_in s n ts)
unfolding params_in
params_sound s n d ts = sound_if (IsParams d) ts (begins (Marked CloseParen) ts) (Ok ([], ts)) _
    (λ h. record { words = []; split = refl; is = no_param })
    (λ h. sound_bind (IsParam d 1) (IsParams d) ts ts _ _ (param_sound s n d 1 ts)
    (λ p tp. sound_bind (Row (λ i. IsAfter IsComma (IsParam d i)) 2) (IsParams d) p.1 ts _ _ (many_sound (λ i. IsAfter IsComma (IsParam d i)) (begins (Marked Comma)) (next_param_in s n) (next_param_sound s n d) (length p.1) 2 p.1)
    (λ ps tps. record { words = tp.words ++ tps.words; split = glue _ _ _ _ _ tp.split tps.split; is = params tp.is (more_params_of tps.is) })))

-- "(", parameters and ")"
pub data IsHead (d : ℕ) : List Part → List Param → Type 0 where
  head : (o c : Place) {w : List Part} {ps : List Param} → IsParams (suc d) w ps → IsHead d (opening d OpenParen o ∷ (w ++ mark CloseParen c ∷ [])) ps

params_of_sound : (s : Bool) (n d : ℕ) (ts : List Lexeme) → begins (Marked OpenParen) ts ≡ true → Sound (IsHead d) ts (params_of s n ts)
unfolding params_of
params_of_sound s zero d ts h = tt
params_of_sound s (suc n) d ts h = sound_bind (IsParams (suc d)) (IsHead d) (behind ts) ts _ _ (params_sound s n (suc d) (behind ts))
    (λ ps tps. sound_expect (IsHead d) (Marked CloseParen) ps.1 ts _
    (λ c rest q. record {
      words = opening d OpenParen (place ts) ∷ (tps.words ++ mark CloseParen c ∷ []);
      split = begins_is (Marked OpenParen) ts h ∙ ap (λ (v : List Lexeme). lexeme (Marked OpenParen) (place ts) ∷ v) (glue (behind ts) tps.words (mark CloseParen c ∷ []) ps.1 rest tps.split q);
      is = head (place ts) c tps.is;
    }))

-- ---- constraints

rel_sound : (n d : ℕ) (ts : List Lexeme) → Sound (IsRel d) ts (rel_in n ts)
unfolding rel_in
rel_sound n d ts = sound_bind (IsView d) (IsRel d) ts ts _ _ (view_sound d n ts)
    (λ s ts1. sound_expect (IsRel d) (Marked Arrow) s.1 ts _
    (λ o rest q. sound_bind (IsView d) (IsRel d) rest ts _ _ (view_sound d n rest)
    (λ t tt1. record {
      words = ts1.words ++ mark Arrow o ∷ tt1.words;
      split = glue ts ts1.words (mark Arrow o ∷ tt1.words) s.1 t.1 ts1.split (q ∙ ap (λ (v : List Lexeme). lexeme (Marked Arrow) o ∷ v) tt1.split);
      is = rel o ts1.is tt1.is;
    })))

pub next_rel_sound : (n d k : ℕ) (ts : List Lexeme) → begins (Marked Comma) ts ≡ true → Sound (IsAfter IsComma (IsRel d)) ts (next_rel_in n k ts)
unfolding next_rel_in
next_rel_sound n d k ts h = comma_sound (IsRel d) ts (rel_in n (behind ts)) h (rel_sound n d (behind ts))

more_rels_of : {d k : ℕ} {w : List Part} {rs : List Constraint} → Row (λ _. IsAfter IsComma (IsRel d)) k w rs → IsMoreRels d w rs
more_rels_of none = no_more_rel
more_rels_of (next (after a_comma i) is) = then_rel i (more_rels_of is)

pub sharing_sound : (n d : ℕ) (ts : List Lexeme) → Sound (IsSharing d) ts (sharing_in n ts)
unfolding sharing_in
sharing_sound n d ts = sound_if (IsSharing d) ts (begins (Key Sharing) ts) _ (Ok ([], ts))
    (λ h. sound_bind (IsRel d) (IsSharing d) (behind ts) ts _ _ (rel_sound n d (behind ts))
    (λ r tr. sound_bind (Row (λ _. IsAfter IsComma (IsRel d)) 1) (IsSharing d) r.1 ts _ _ (many_sound (λ _. IsAfter IsComma (IsRel d)) (begins (Marked Comma)) (next_rel_in n) (next_rel_sound n d) (length r.1) 1 r.1)
    (λ rs trs. record {
      words = key Sharing (place ts) ∷ (tr.words ++ trs.words);
      split = begins_is (Key Sharing) ts h ∙ ap (λ (v : List Lexeme). lexeme (Key Sharing) (place ts) ∷ v) (glue (behind ts) tr.words trs.words r.1 rs.1 tr.split trs.split);
      is = sharing tr.is (more_rels_of trs.is);
    })))
    (λ h. record { words = []; split = refl; is = no_sharing })

-- ---- lists of names

pub data IsNextName : List Part → Named → Type 0 where
  next_name : {o p : Place} {x : Name} → IsNextName (mark Ampersand o ∷ name x p ∷ []) (named x p)

pub next_name_sound : (k : ℕ) (ts : List Lexeme) → begins (Marked Ampersand) ts ≡ true → Sound IsNextName ts (next_name_in k ts)
unfolding next_name_in
next_name_sound k ts h = by_answer (name_in (behind ts)) (sound_name IsNextName (behind ts) ts (λ y. Ok y)
    (λ x p rest q. record { words = mark Ampersand (place ts) ∷ name x p ∷ []; split = begins_is (Marked Ampersand) ts h ∙ ap (λ (v : List Lexeme). lexeme (Marked Ampersand) (place ts) ∷ v) q; is = next_name }))
  where
    by_answer : (r : Answer Named) → Sound IsNextName ts (r >>= λ y. Ok y) → Sound IsNextName ts r
    by_answer (Ok x) s = s
    by_answer (Err f) s = s

listed_by : {k : ℕ} {w : List Part} {xs : List Named} (x : Name) (p : Place) → Row (λ _. IsNextName) k w xs → IsListed (name x p ∷ w) (named x p ∷ xs)
listed_by x p none = last_name
listed_by x p (next (next_name {o} {p = q} {x = y}) is) = then_name (listed_by y q is)

listed_sound : (ts : List Lexeme) → Sound IsListed ts (listed_in ts)
unfolding listed_in
listed_sound ts = sound_name IsListed ts ts _
    (λ x p rest q. sound_bind (Row (λ _. IsNextName) 1) IsListed rest ts _ _ (many_sound (λ _. IsNextName) (begins (Marked Ampersand)) next_name_in next_name_sound (length rest) 1 rest)
    (λ xs txs. record { words = name x p ∷ txs.words; split = q ∙ ap (λ (v : List Lexeme). lexeme (Named_ x) p ∷ v) txs.split; is = listed_by x p txs.is }))

pub list_sound : (k : Keyword) (ts : List Lexeme) → Sound (IsList k) ts (list_in k ts)
unfolding list_in
list_sound k ts = sound_if (IsList k) ts (begins (Key k) ts) (listed_in (behind ts)) (Ok ([], ts))
    (λ h. by_answer (listed_in (behind ts)) h (listed_sound (behind ts)))
    (λ h. record { words = []; split = refl; is = no_list })
  where
    by_answer : (r : Answer (List Named)) → begins (Key k) ts ≡ true → Sound IsListed (behind ts) r → Sound (IsList k) ts r
    by_answer (Ok x) h s = record { words = key k (place ts) ∷ s.words; split = begins_is (Key k) ts h ∙ ap (λ (v : List Lexeme). lexeme (Key k) (place ts) ∷ v) s.split; is = list s.is }
    by_answer (Err f) h s = tt

-- ---- fields and methods

-- the pieces in a row are those of the rule
pub around : (v u w : List Part) (c b e : Part) → (v ++ c ∷ []) ++ (u ++ (b ∷ (w ++ e ∷ []))) ≡ v ++ (c ∷ (u ++ (b ∷ (w ++ e ∷ []))))
around v u w c b e = append_assoc v (c ∷ []) (u ++ (b ∷ (w ++ e ∷ [])))

method_of : {d i : ℕ} {r h u w : List Part} {res : Option TypeTerm} {ps : List Param} {cs : List Constraint} {ss : List Stmt × ℕ} (x : Name) (p : Place)
    → IsResult d r res → IsHead d h ps → IsSharing d u cs → IsBlock d 0 w ss
    → IsMember kind.Class d i (r ++ (name x p ∷ (h ++ (u ++ w)))) (member.Body (record { result = res; name = named x p; params = ps; sharing = cs; body = ss.0 }))
method_of {d} {i} {r} {u = u} {res = res} {cs = cs} x p a (head o c {w = v} {ps} j) q (braced b e {w = w} {ss} k) =
    subst (λ (z : List Part). IsMember kind.Class d i (r ++ (name x p ∷ opening d OpenParen o ∷ z)) (member.Body (record { result = res; name = named x p; params = ps; sharing = cs; body = ss })))
    (sym (around v u w (mark CloseParen c) (opening d OpenBrace b) (mark CloseBrace e))) (method p o c b e a j q k)

pub method_sound : (s : Bool) (n d i : ℕ) (res : Option TypeTerm) (x : Name) (p : Place) (r : List Part) → IsResult d r res → (ts us : List Lexeme) → us ≡ lexemes r ++ (lexeme (Named_ x) p ∷ ts) → begins (Marked OpenParen) ts ≡ true
    → Sound (IsMember kind.Class d i) us (method_in s n res (named x p) ts)
unfolding method_in
method_sound s n d i res x p r a ts us e h =
    sound_bind (IsHead d) (IsMember kind.Class d i) ts us _ _ (params_of_sound s n d ts h)
    (λ ps tps. sound_bind (IsSharing d) (IsMember kind.Class d i) ps.1 us _ _ (sharing_sound n d ps.1)
    (λ cs tcs. sound_bind (IsBlock d 0) (IsMember kind.Class d i) cs.1 us _ _ (block_sound s n (stmt_sounds_below s n) d 0 cs.1)
    (λ ss tss. record {
      words = r ++ (name x p ∷ (tps.words ++ (tcs.words ++ tss.words)));
      split = glue us r (name x p ∷ (tps.words ++ (tcs.words ++ tss.words))) (lexeme (Named_ x) p ∷ ts) ss.1 e
          (ap (λ (v : List Lexeme). lexeme (Named_ x) p ∷ v) (glue ts tps.words (tcs.words ++ tss.words) ps.1 ss.1 tps.split (glue ps.1 tcs.words tss.words cs.1 ss.1 tcs.split tss.split)));
      is = method_of x p a tps.is tcs.is tss.is;
    })))

pub void_sound : (s : Bool) (n d i : ℕ) (q : Place) (ts : List Lexeme) → Sound (IsMember kind.Class d i) (lexeme (Key Void) q ∷ ts) (void_in s n ts)
unfolding void_in
void_sound s n d i q ts = sound_name (IsMember kind.Class d i) ts (lexeme (Key Void) q ∷ ts) _
    (λ x p rest e. sound_if (IsMember kind.Class d i) (lexeme (Key Void) q ∷ ts) (begins (Marked OpenParen) rest) _ (here rest)
    (method_sound s n d i None x p (key Void q ∷ []) no_result rest (lexeme (Key Void) q ∷ ts) (ap (λ (v : List Lexeme). lexeme (Key Void) q ∷ v) e))
    (λ h. tt))

pub typed_sound : (s : Bool) (n d i : ℕ) (ts : List Lexeme) → Sound (IsMember kind.Class d i) ts (typed_in s n ts)
unfolding typed_in typed_end_in
typed_sound s n d i ts = sound_bind (IsType d) (IsMember kind.Class d i) ts ts _ _ (type_sound s d n ts)
    (λ ty t. sound_name (IsMember kind.Class d i) ty.1 ts _
    (λ x p rest e.
    let at_name : ts ≡ lexemes t.words ++ (lexeme (Named_ x) p ∷ rest) = t.split ∙ ap (λ (v : List Lexeme). lexemes t.words ++ v) e in
    sound_if (IsMember kind.Class d i) ts (begins (Marked Semicolon) rest) (Ok (member.Slot (record { ty = ty.0; name = named x p }), behind rest)) _
    (λ h. record {
      words = t.words ++ name x p ∷ mark Semicolon (place rest) ∷ [];
      split = glue ts t.words (name x p ∷ mark Semicolon (place rest) ∷ []) (lexeme (Named_ x) p ∷ rest) (behind rest) at_name (ap (λ (v : List Lexeme). lexeme (Named_ x) p ∷ v) (begins_is (Marked Semicolon) rest h));
      is = slot p (place rest) t.is;
    })
    (λ h. sound_if (IsMember kind.Class d i) ts (begins (Marked OpenParen) rest) _ (here rest)
    (method_sound s n d i (Some ty.0) x p t.words (result t.is) rest ts at_name)
    (λ h. tt))))
