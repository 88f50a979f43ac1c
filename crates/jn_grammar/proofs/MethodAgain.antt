-- What is in the grammar of parameters, constraints, lists of names and methods is read, with its tree, whatever fits behind it.
use Rattle.std.proofs.Common.{◌≡◌, ℕ, zero, suc, ◌+◌, ◌≤◌, Bool, true, false, List, [], ◌∷◌, ◌++◌, length, Option, Some, Ok, refl, ◌∙◌, ap, arith}
use Rattle.std.proofs.lemmas.Bool.{eq-eqb}
use Rattle.jn_base.specs.declared.tree.Name.{Name}
use Rattle.jn_base.specs.declared.tree.Place.{Place}
use Rattle.jn_base.specs.declared.tree.Named.{Named}
use Rattle.jn_base.specs.declared.tree.Term.{Term}
use Rattle.jn_base.specs.declared.tree.TypeTerm.{TypeTerm}
use Rattle.jn_base.specs.declared.tree.Param.{Param}
use Rattle.jn_base.specs.declared.tree.Constraint.{Constraint}
use Rattle.jn_base.specs.declared.tree.Stmt.{Stmt}
use Rattle.jn_base.specs.declared.tree.Member.TheVariants as member
use Rattle.jn_base.specs.declared.word.Keyword.{Keyword}
use Rattle.jn_base.specs.declared.word.Keyword.TheVariants.{Boolean, Final, Int, This}
use Rattle.jn_base.specs.declared.word.Mark.TheVariants.{Ampersand, Arrow, CloseBrace, CloseParen, Comma, OpenBrace, OpenParen, Semicolon}
use Rattle.jn_base.specs.declared.word.Word.{Word}
use Rattle.jn_base.specs.declared.word.Word.TheVariants.{Name as Named_, Keyword as Key, Mark as Marked}
use Rattle.jn_base.specs.declared.word.Lexeme.{Lexeme}
use Rattle.jn_base.specs.Words.{lexeme}
use Rattle.jn_base.specs.Parts.{Part, Parameter, mark, name, opening, new_name, atom, named}
use Rattle.jn_base.specs.GrammarTypes.{IsType, int, boolean, class}
use Rattle.jn_base.specs.GrammarStmt.{not_final, final}
use Rattle.jn_base.specs.GrammarDecl.{IsParam, param, IsMoreParams, no_more_param, then_param, IsParams, no_param, params, IsRel, rel, IsMoreRels, no_more_rel, then_rel, IsSharing, no_sharing, sharing, IsListed, last_name, then_name, IsList, no_list, list}
use Rattle.jn_grammar.specs.Begins.{begins, lexemes, is_word, key_code}
use Rattle.jn_grammar.specs.Answers.{◌>>=◌, expect, name_in, row}
use Rattle.jn_grammar.specs.ReadTypes.{is_head, view_in, type_in}
use Rattle.jn_grammar.specs.ReadStmts.{new_name_in, block_in, stmts_of}
use Rattle.jn_grammar.specs.ReadDecls.{final_in, param_in, next_param_in, params_in, params_of, rel_in, next_rel_in, sharing_in, next_name_in, listed_in, list_in, method_in, typed_end_in, typed_in}
use Rattle.jn_grammar.proofs.FirstWords.{never}
use Rattle.jn_grammar.proofs.Row.{Row, none, next}
use Rattle.jn_grammar.proofs.TermsSound.{IsAtom, one_atom}
use Rattle.jn_grammar.proofs.Meets.{meets, Reads, then_reads, if_true, if_false}
use Rattle.jn_grammar.proofs.TermsAgain.{row_again, read_then}
use Rattle.jn_grammar.proofs.TypesAgain.{EndsView, TermHead, term_head, head_of, AtomsRow, atoms_row, row_atoms, view_again, type_again}
use Rattle.jn_grammar.proofs.ExprAgain.{denied_again, allowed_again, deeper}
use Rattle.jn_grammar.proofs.LocalSound.{IsNewName, one_new_name}
use Rattle.jn_grammar.proofs.StmtSound.{IsBlock, braced}
use Rattle.jn_grammar.proofs.MethodSound.{IsAfter, after, IsComma, a_comma, IsHead, head, IsNextName, next_name}
use Rattle.jn_grammar.proofs.LocalAgain.{new_name_again, name_ends}
use Rattle.jn_grammar.proofs.StmtAgain.{block_again, stmt_agains_below}

-- ---- how types and parameters begin

pub data Heads (f : Word → Bool) : List Part → Type 0 where
  heads : {t : Part} {w : List Part} → f t.word ≡ true → Heads f (t ∷ w)

pub heads_append : {f : Word → Bool} {w : List Part} → Heads f w → (u : List Part) → Heads f (w ++ u)
heads_append (heads h) u = heads h

pub heads_not : (f : Word → Bool) (g : Word) → ((k : Word) → f k ≡ true → is_word g k ≡ false) → {w : List Part} → Heads f w → (v : List Lexeme) → begins g (lexemes w ++ v) ≡ false
heads_not f g differ (heads {t} h) v = differ t.word h

abbrev pub is_type_word : Word → Bool
is_type_word (Key Int) = true
is_type_word (Key Boolean) = true
is_type_word (Key This) = true
is_type_word (Named_ x) = true
is_type_word w = false

abbrev pub is_param_word : Word → Bool
is_param_word (Key Final) = true
is_param_word w = is_type_word w

pub type_heads : {d : ℕ} {w : List Part} {t : TypeTerm} → IsType d w t → Heads is_type_word w
type_heads int = heads refl
type_heads boolean = heads refl
type_heads (class {v = u} {w} i m) = heads_append (by_row (row_atoms i)) w
  where
    by_word : (k : Word) → is_head k ≡ true → is_type_word k ≡ true
    by_word (Key This) h = refl
    by_word (Named_ x) h = refl
    by_word k h = absurd (never h)

    by_head : {w : List Part} → TermHead w → Heads is_type_word (atom 1 w)
    by_head (term_head {t} h q) = heads (by_word t.word h)

    by_atom : {d : ℕ} {w : List Part} {t : Term} → IsAtom d 1 w t → Heads is_type_word w
    by_atom (one_atom i) = by_head (head_of i)

    by_row : {d : ℕ} {u : List Part} {ts : List Term} → AtomsRow d 1 u ts → Heads is_type_word u
    by_row (atoms_row {w = w} a js) = heads_append (by_atom a) w

type_no_final : (k : Word) → is_type_word k ≡ true → is_word (Key Final) k ≡ false
type_no_final (Key Int) h = refl
type_no_final (Key Boolean) h = refl
type_no_final (Key This) h = refl
type_no_final (Key k) h = absurd (never h)
type_no_final (Named_ x) h = refl
type_no_final k h = absurd (never h)

param_no_close : (k : Word) → is_param_word k ≡ true → is_word (Marked CloseParen) k ≡ false
param_no_close (Key k) h = refl
param_no_close (Named_ x) h = refl
param_no_close k h = absurd (never h)

type_param : (k : Word) → is_type_word k ≡ true → is_param_word k ≡ true
type_param (Key Int) h = refl
type_param (Key Boolean) h = refl
type_param (Key This) h = refl
type_param (Key k) h = absurd (never h)
type_param (Named_ x) h = refl
type_param k h = absurd (never h)

heads_map : (f g : Word → Bool) → ((k : Word) → f k ≡ true → g k ≡ true) → {w : List Part} → Heads f w → Heads g w
heads_map f g h (heads {t} q) = heads (h t.word q)

param_heads : {d k : ℕ} {w : List Part} {x : Param} → IsParam d k w x → Heads is_param_word w
param_heads (param p not_final i) = heads_append (heads_map is_type_word is_param_word type_param (type_heads i)) _
param_heads (param p final i) = heads refl

-- ---- parameters

abbrev a_param : Bool → TypeTerm → Named → Param
a_param fixed t x = record { fixed = fixed; ty = t; name = x }

-- behind "final", or where it does not stand
param_rest : (n d k : ℕ) (fixed : Bool) → d + n ≡ 200 → {w nw : List Part} {t : TypeTerm} {x : Named} → IsType d w t → IsNewName (Parameter k) nw x → (v : List Lexeme)
    → (type_in true n (lexemes (w ++ nw) ++ v) >>= λ ty. new_name_in true (Parameter k) ty.1 >>= λ x. Ok (a_param fixed ty.0 x.0, x.1)) ≡ meets (w ++ nw) v (Ok (a_param fixed t x, v))
param_rest n d k fixed room {w} {nw} {t} {x} i j v =
    then_reads (type_in true n) (λ ty. new_name_in true (Parameter k) ty.1 >>= λ x. Ok (a_param fixed ty.0 x.0, x.1)) w nw v t _
    (type_again i n room (lexemes nw ++ v) (name_ends j v))
    (read_then (new_name_in true (Parameter k)) (λ x. Ok (a_param fixed t x.0, x.1)) nw v x _ (new_name_again (Parameter k) j v) refl)

pub param_again : (n d k : ℕ) → d + n ≡ 200 → {w : List Part} {x : Param} → IsParam d k w x → (v : List Lexeme) → Reads (param_in true n k) w v x
unfolding param_in
param_again n d k room (param {x = x} p {v = u} not_final i) v =
    let w : List Part = u ++ new_name (Parameter k) x p ∷ [] in
    let none : final_in (lexemes w ++ v) ≡ (false, lexemes w ++ v) = if_false (begins (Key Final) (lexemes w ++ v)) _ _ (heads_not is_type_word (Key Final) type_no_final (heads_append (type_heads i) (new_name (Parameter k) x p ∷ [])) v) in
    ap (λ (f : Bool × List Lexeme). type_in true n f.1 >>= λ ty. new_name_in true (Parameter k) ty.1 >>= λ x. Ok (a_param f.0 ty.0 x.0, x.1)) none
    ∙ param_rest n d k false room i (one_new_name {x = x} {p = p}) v
param_again n d k room (param {x = x} p final i) v = param_rest n d k true room i (one_new_name {x = x} {p = p}) v

row_params : {d k : ℕ} {w : List Part} {ps : List Param} → IsMoreParams d k w ps → Row (λ i. IsAfter IsComma (IsParam d i)) k w ps
row_params no_more_param = none
row_params (then_param {o = o} i is) = next (after (a_comma {o = o}) i) (row_params is)

next_param_again : (n d : ℕ) → d + n ≡ 200 → (k : ℕ) (w : List Part) (x : Param) → IsAfter IsComma (IsParam d k) w x → (v : List Lexeme) → Unit {0} → Reads (next_param_in true n k) w v x
unfolding next_param_in
next_param_again n d room k w x (after a_comma i) v u = param_again n d k room i v

next_param_head : (d k : ℕ) (w : List Part) (x : Param) → IsAfter IsComma (IsParam d k) w x → (v : List Lexeme) → (begins (Marked Comma) (lexemes w ++ v) ≡ true) × (1 ≤ length w) × Unit {0}
next_param_head d k w x (after a_comma i) v = (refl, omega arith, tt)

params_again : (n d : ℕ) → d + n ≡ 200 → {w : List Part} {ps : List Param} → IsParams d w ps → (c : Place) (v : List Lexeme) → Reads (params_in true n) w (lexeme (Marked CloseParen) c ∷ v) ps
unfolding params_in
params_again n d room no_param c v = refl
params_again n d room (params {v = u} {w} {t = p} {ts = ps} i is) c v =
    let z : List Lexeme = lexeme (Marked CloseParen) c ∷ v in
    if_false (begins (Marked CloseParen) (lexemes (u ++ w) ++ z)) _ _ (heads_not is_param_word (Marked CloseParen) param_no_close (heads_append (param_heads i) w) z)
    ∙ then_reads (param_in true n 1) (λ p. row (begins (Marked Comma)) (next_param_in true n) 2 p.1 >>= λ ps. Ok (p.0 ∷ ps.0, ps.1)) u w z p _ (param_again n d 1 room i (lexemes w ++ z))
    (read_then (row (begins (Marked Comma)) (next_param_in true n) 2) (λ ps. Ok (p ∷ ps.0, ps.1)) w z ps _
    (row_again (λ i. IsAfter IsComma (IsParam d i)) (begins (Marked Comma)) (next_param_in true n) (λ _. Unit {0}) (next_param_head d) (next_param_again n d room) (row_params is) z refl tt) refl)

params_of_again : (n d : ℕ) → d + n ≡ 200 → {w : List Part} {ps : List Param} → IsHead d w ps → (v : List Lexeme) → Reads (params_of true n) w v ps
unfolding params_of
params_of_again zero d room (head o c {w} {ps} i) v = denied_again d room (Marked OpenParen) o (w ++ mark CloseParen c ∷ []) v ps
params_of_again (suc n) d room (head o c {w} {ps} i) v =
    allowed_again d n room (w ++ mark CloseParen c ∷ []) v ps _
    (then_reads (params_in true n) (λ ps. expect (Marked CloseParen) ps.1 >>= λ shut. Ok (ps.0, shut.1)) w (mark CloseParen c ∷ []) v ps (Ok (ps, v)) (params_again n (suc d) (deeper d n room) i c v) refl)

-- ---- constraints

rel_again : (n d : ℕ) → d + n ≡ 200 → {w : List Part} {r : Constraint} → IsRel d w r → (v : List Lexeme) → EndsView v → Reads (rel_in n) w v r
unfolding rel_in
rel_again n d room (rel o {v = u} {w} {s} {t} i j) v a =
    then_reads (view_in n) (λ s. expect (Marked Arrow) s.1 >>= λ o. view_in n o.1 >>= λ t. Ok (record { from = s.0; to = t.0 }, t.1)) u (mark Arrow o ∷ w) v s _
    (view_again i n room (lexeme (Marked Arrow) o ∷ (lexemes w ++ v)) (record { term = record { names = record { dot = refl; bang = refl }; bracket = refl }; mask = refl }))
    (read_then (view_in n) (λ t. Ok (record { from = s; to = t.0 }, t.1)) w v t _ (view_again j n room v a) refl)

row_rels : {d k : ℕ} {w : List Part} {rs : List Constraint} → IsMoreRels d w rs → Row (λ _. IsAfter IsComma (IsRel d)) k w rs
row_rels no_more_rel = none
row_rels (then_rel {o = o} i is) = next (after (a_comma {o = o}) i) (row_rels is)

next_rel_again : (n d : ℕ) → d + n ≡ 200 → (k : ℕ) (w : List Part) (x : Constraint) → IsAfter IsComma (IsRel d) w x → (v : List Lexeme) → EndsView v → Reads (next_rel_in n k) w v x
unfolding next_rel_in
next_rel_again n d room k w x (after a_comma i) v a = rel_again n d room i v a

next_rel_head : (d k : ℕ) (w : List Part) (x : Constraint) → IsAfter IsComma (IsRel d) w x → (v : List Lexeme) → (begins (Marked Comma) (lexemes w ++ v) ≡ true) × (1 ≤ length w) × EndsView (lexemes w ++ v)
next_rel_head d k w x (after a_comma i) v = (refl, omega arith, record { term = record { names = record { dot = refl; bang = refl }; bracket = refl }; mask = refl })

rels_end : {d : ℕ} {w : List Part} {rs : List Constraint} → IsMoreRels d w rs → (v : List Lexeme) → EndsView v → EndsView (lexemes w ++ v)
rels_end no_more_rel v a = a
rels_end (then_rel i is) v a = record { term = record { names = record { dot = refl; bang = refl }; bracket = refl }; mask = refl }

-- in front of a "{"
sharing_again : (n d : ℕ) → d + n ≡ 200 → {w : List Part} {cs : List Constraint} → IsSharing d w cs → (o : Place) (v : List Lexeme) → Reads (sharing_in n) w (lexeme (Marked OpenBrace) o ∷ v) cs
unfolding sharing_in
sharing_again n d room no_sharing o v = refl
sharing_again n d room (sharing {v = u} {w} {r} {rs} i is) o v =
    let z : List Lexeme = lexeme (Marked OpenBrace) o ∷ v in
    let a : EndsView z = record { term = record { names = record { dot = refl; bang = refl }; bracket = refl }; mask = refl } in
    then_reads (rel_in n) (λ r. row (begins (Marked Comma)) (next_rel_in n) 1 r.1 >>= λ rs. Ok (r.0 ∷ rs.0, rs.1)) u w z r _ (rel_again n d room i (lexemes w ++ z) (rels_end is z a))
    (read_then (row (begins (Marked Comma)) (next_rel_in n) 1) (λ rs. Ok (r ∷ rs.0, rs.1)) w z rs _
    (row_again (λ _. IsAfter IsComma (IsRel d)) (begins (Marked Comma)) (next_rel_in n) EndsView (next_rel_head d) (next_rel_again n d room) (row_rels {k = 1} is) z refl a) refl)

-- ---- lists of names

pub record EndsList (k : Keyword) (v : List Lexeme) : Type 0 where
  pub keyword : begins (Key k) v ≡ false
  pub ampersand : begins (Marked Ampersand) v ≡ false

next_name_again : (k : ℕ) (w : List Part) (x : Named) → IsNextName w x → (v : List Lexeme) → Unit {0} → Reads (next_name_in k) w v x
unfolding next_name_in
next_name_again k w x next_name v u = refl

next_name_head : (k : ℕ) (w : List Part) (x : Named) → IsNextName w x → (v : List Lexeme) → (begins (Marked Ampersand) (lexemes w ++ v) ≡ true) × (1 ≤ length w) × Unit {0}
next_name_head k w x next_name v = (refl, omega arith, tt)

data ListedRow : List Part → List Named → Type 0 where
  listed_row : {x : Name} {p : Place} {w : List Part} {xs : List Named} → Row (λ _. IsNextName) 1 w xs → ListedRow (name x p ∷ w) (named x p ∷ xs)

shift_names : {j k : ℕ} {w : List Part} {xs : List Named} → Row (λ _. IsNextName) j w xs → Row (λ _. IsNextName) k w xs
shift_names none = none
shift_names (next i is) = next i (shift_names is)

longer : {w : List Part} {xs : List Named} (x : Name) (p o : Place) → ListedRow w xs → ListedRow (name x p ∷ mark Ampersand o ∷ w) (named x p ∷ xs)
longer x p o (listed_row {x = y} {p = q} r) = listed_row (next (next_name {o = o} {p = q} {x = y}) (shift_names r))

row_listed : {w : List Part} {xs : List Named} → IsListed w xs → ListedRow w xs
row_listed last_name = listed_row none
row_listed (then_name {x} {p} {o} i) = longer x p o (row_listed i)

listed_again : {w : List Part} {xs : List Named} → IsListed w xs → (v : List Lexeme) → begins (Marked Ampersand) v ≡ false → Reads listed_in w v xs
unfolding listed_in
listed_again i v e = by_row (row_listed i)
  where
    by_row : {w : List Part} {xs : List Named} → ListedRow w xs → Reads listed_in w v xs
    by_row (listed_row {x} {p} {w} {xs} r) =
        read_then (row (begins (Marked Ampersand)) next_name_in 1) (λ xs. Ok (named x p ∷ xs.0, xs.1)) w v xs _
        (row_again (λ _. IsNextName) (begins (Marked Ampersand)) next_name_in (λ _. Unit {0}) next_name_head next_name_again r v e tt) refl

key_same : (k : Keyword) (p : Place) (v : List Lexeme) → begins (Key k) (lexeme (Key k) p ∷ v) ≡ true
key_same k p v = eq-eqb (key_code k) (key_code k) refl

pub list_again : {k : Keyword} {w : List Part} {xs : List Named} → IsList k w xs → (v : List Lexeme) → EndsList k v → Reads (list_in k) w v xs
unfolding list_in
list_again {k} no_list v a = if_false (begins (Key k) v) _ _ a.keyword
list_again {k} (list {p = p} {w} {xs} i) v a = if_true (begins (Key k) (lexeme (Key k) p ∷ (lexemes w ++ v))) _ _ (key_same k p (lexemes w ++ v)) ∙ listed_again i v a.ampersand

-- ---- methods

-- from the "(" on
pub method_again : (n d : ℕ) → d + n ≡ 200 → (res : Option TypeTerm) (x : Named) {h u w : List Part} {ps : List Param} {cs : List Constraint} {ss : List Stmt × ℕ} → IsHead d h ps → IsSharing d u cs → IsBlock d 0 w ss → (v : List Lexeme)
    → Reads (method_in true n res x) (h ++ (u ++ w)) v (member.Body (record { result = res; name = x; params = ps; sharing = cs; body = ss.0 }))
unfolding method_in
method_again n d room res x {h} {u} {ps = ps} {cs} i j (braced {m} o c {w} {ss} k) v =
    let body : List Part = opening d OpenBrace o ∷ (w ++ mark CloseBrace c ∷ []) in
    then_reads (params_of true n) (λ ps. sharing_in n ps.1 >>= λ cs. block_in true n (stmts_of true n) 0 cs.1 >>= λ ss. Ok (member.Body (record { result = res; name = x; params = ps.0; sharing = cs.0; body = ss.0.0 }), ss.1)) h (u ++ body) v ps _
    (params_of_again n d room i (lexemes (u ++ body) ++ v))
    (then_reads (sharing_in n) (λ cs. block_in true n (stmts_of true n) 0 cs.1 >>= λ ss. Ok (member.Body (record { result = res; name = x; params = ps; sharing = cs.0; body = ss.0.0 }), ss.1)) u body v cs _
    (sharing_again n d room j o (lexemes (w ++ mark CloseBrace c ∷ []) ++ v))
    (read_then (block_in true n (stmts_of true n) 0) (λ ss. Ok (member.Body (record { result = res; name = x; params = ps; sharing = cs; body = ss.0.0 }), ss.1)) body v (ss, m) _ (block_again n (stmt_agains_below n) (braced o c k) room v) refl))

-- a type, a name and ";"
pub slot_again : (n d : ℕ) → d + n ≡ 200 → (x : Name) (p s : Place) {w : List Part} {t : TypeTerm} → IsType d w t → (v : List Lexeme)
    → Reads (typed_in true n) (w ++ name x p ∷ mark Semicolon s ∷ []) v (member.Slot (record { ty = t; name = named x p }))
unfolding typed_in typed_end_in
slot_again n d room x p s {w} {t} i v =
    then_reads (type_in true n) (λ ty. name_in ty.1 >>= λ x. typed_end_in true n ty.0 x.0 x.1) w (name x p ∷ mark Semicolon s ∷ []) v t _
    (type_again i n room (lexeme (Named_ x) p ∷ lexeme (Marked Semicolon) s ∷ v) (record { view = record { term = record { names = record { dot = refl; bang = refl }; bracket = refl }; mask = refl }; ampersand = refl }))
    refl

-- a type, a name and a method's rest
pub typed_method_again : (n d : ℕ) → d + n ≡ 200 → (x : Name) (p : Place) {r h u w : List Part} {t : TypeTerm} {ps : List Param} {cs : List Constraint} {ss : List Stmt × ℕ} → IsType d r t → IsHead d h ps → IsSharing d u cs → IsBlock d 0 w ss → (v : List Lexeme)
    → Reads (typed_in true n) (r ++ (name x p ∷ (h ++ (u ++ w)))) v (member.Body (record { result = Some t; name = named x p; params = ps; sharing = cs; body = ss.0 }))
unfolding typed_in typed_end_in
typed_method_again n d room x p {r} {u = u} {w} {t} {ps} {cs} {ss} i (head o c {w = y} j) k q v =
    let h : List Part = opening d OpenParen o ∷ (y ++ mark CloseParen c ∷ []) in
    then_reads (type_in true n) (λ ty. name_in ty.1 >>= λ x. typed_end_in true n ty.0 x.0 x.1) r (name x p ∷ (h ++ (u ++ w))) v t _
    (type_again i n room (lexeme (Named_ x) p ∷ (lexemes (h ++ (u ++ w)) ++ v)) (record { view = record { term = record { names = record { dot = refl; bang = refl }; bracket = refl }; mask = refl }; ampersand = refl }))
    (method_again n d room (Some t) (named x p) (head o c j) k q v)
