-- The locals found in a method are those with a name in scope.
use Rattle.std.proofs.Common.{◌≡◌, List, [], ◌∷◌, ◌++◌, refl, sym, ap, ◌∙◌, subst, Bool, ◌⊎◌, inl, inr, Contains, map}
use Rattle.std.proofs.lemmas.List.Elements.{Contains-append_left, Contains-append_right, Contains-append_cases}
use Rattle.jn_base.specs.declared.tree.Name.{Name}
use Rattle.jn_base.specs.declared.tree.Named.{Named}
use Rattle.jn_base.specs.declared.tree.Place.{Place}
use Rattle.jn_base.specs.declared.tree.TypeTerm.{TypeTerm}
use Rattle.jn_base.specs.declared.tree.Expr.{Expr}
use Rattle.jn_base.specs.declared.tree.Method.{Method}
use Rattle.jn_base.specs.declared.tree.Stmt.{Stmt, out-Stmt, roll-Stmt, out-roll-Stmt}
use Rattle.jn_base.specs.declared.tree.Stmt.TheOpen.{Stmt-F}
use Rattle.jn_base.specs.declared.tree.Stmt.TheFolds.{fold_out-Stmt, map-Stmt, ind-Stmt}
use Rattle.jn_base.specs.Duplicates.{has_name, seconds, InStmt, in_block, stmt_step, in_stmt, param_name, param_scope, in_method}
use Rattle.jn_base.specs.Twice.{LocalTwice, declared, behind_local, behind_other, within_block, within_then, within_else, within_while, MethodTwice, parameter, local}
use Rattle.jn_base.proofs.NameTests.{in_none, has_from, has_in}
use Rattle.jn_base.proofs.Seconds.{only_has, only_from, seconds_to, seconds_from, second_is, second_from}

opened : (s : Stmt) (o : Stmt-F Stmt) → out-Stmt s ≡ o → in_stmt s ≡ stmt_step (map-Stmt _ _ in_stmt o)
opened s o e = fold_out-Stmt InStmt stmt_step s ∙ ap (λ (x : Stmt-F Stmt). stmt_step (map-Stmt _ _ in_stmt x)) e

-- ---- each is found

no_local : (s : Stmt) → ((fixed : Bool) (ty : TypeTerm) (m : Named) (e : Expr) → out-Stmt s ≡ Stmt-F.Local fixed ty m e → ⊥)
    → (o : Stmt-F Stmt) → out-Stmt s ≡ o → (stmt_step (map-Stmt _ _ in_stmt o)).binds ≡ []
no_local s n (Stmt-F.Block body) h = refl
no_local s n (Stmt-F.Local fixed ty m e) h = absurd (n fixed ty m e h)
no_local s n (Stmt-F.Assign m e) h = refl
no_local s n (Stmt-F.Set a m e) h = refl
no_local s n (Stmt-F.Do e) h = refl
no_local s n (Stmt-F.If e body other at) h = refl
no_local s n (Stmt-F.While e body at) h = refl
no_local s n (Stmt-F.Return e at) h = refl
no_local s n (Stmt-F.Print e at) h = refl
no_local s n (Stmt-F.PrintText t at) h = refl

head_found : (s : Stmt) (ss : List Stmt) (scope : List Name) (n : Named) (x : InStmt) → in_stmt s ≡ x → Contains (x.found scope) n
    → Contains (in_block (map in_stmt (s ∷ ss)) scope) n
head_found s ss scope n x e c =
    Contains-append_left ((in_stmt s).found scope) (in_block (map in_stmt ss) ((in_stmt s).binds ++ scope)) n
    (subst (λ (y : InStmt). Contains (y.found scope) n) (sym e) c)

tail_found : (s : Stmt) (ss : List Stmt) (scope binds : List Name) (n : Named) → (in_stmt s).binds ≡ binds
    → Contains (in_block (map in_stmt ss) (binds ++ scope)) n → Contains (in_block (map in_stmt (s ∷ ss)) scope) n
tail_found s ss scope binds n e c =
    Contains-append_right ((in_stmt s).found scope) (in_block (map in_stmt ss) ((in_stmt s).binds ++ scope)) n
    (subst (λ (b : List Name). Contains (in_block (map in_stmt ss) (b ++ scope)) n) (sym e) c)

pub local_found : (scope : List Name) (ss : List Stmt) (n : Named) → LocalTwice scope ss n → Contains (in_block (map in_stmt ss) scope) n
local_found scope [] n t = elim t [ ]
local_found scope (s ∷ ss) n (declared fixed ty e h c) =
    head_found s ss scope n (stmt_step (Stmt-F.Local fixed ty n e)) (opened s (Stmt-F.Local fixed ty n e) h)
    (only_from (has_name scope n.name) n (has_from scope n.name c))
local_found scope (s ∷ ss) n (behind_local fixed ty m e h t) =
    tail_found s ss scope (m.name ∷ []) n (ap (λ (x : InStmt). x.binds) (opened s (Stmt-F.Local fixed ty m e) h)) (local_found (m.name ∷ scope) ss n t)
local_found scope (s ∷ ss) n (behind_other h t) =
    tail_found s ss scope [] n (ap (λ (x : InStmt). x.binds) (opened s (out-Stmt s) refl) ∙ no_local s h (out-Stmt s) refl) (local_found scope ss n t)
local_found scope (s ∷ ss) n (within_block {body = body} h t) =
    head_found s ss scope n (stmt_step (Stmt-F.Block (map in_stmt body))) (opened s (Stmt-F.Block body) h) (local_found scope body n t)
local_found scope (s ∷ ss) n (within_then {body = body} {other = other} e at h t) =
    head_found s ss scope n (stmt_step (Stmt-F.If e (map in_stmt body) (map in_stmt other) at)) (opened s (Stmt-F.If e body other at) h)
    (Contains-append_left (in_block (map in_stmt body) scope) (in_block (map in_stmt other) scope) n (local_found scope body n t))
local_found scope (s ∷ ss) n (within_else {body = body} {other = other} e at h t) =
    head_found s ss scope n (stmt_step (Stmt-F.If e (map in_stmt body) (map in_stmt other) at)) (opened s (Stmt-F.If e body other at) h)
    (Contains-append_right (in_block (map in_stmt body) scope) (in_block (map in_stmt other) scope) n (local_found scope other n t))
local_found scope (s ∷ ss) n (within_while {body = body} e at h t) =
    head_found s ss scope n (stmt_step (Stmt-F.While e (map in_stmt body) at)) (opened s (Stmt-F.While e body at) h) (local_found scope body n t)

-- ---- nothing else is found

abbrev Told : Stmt → Type 0
Told s = (scope : List Name) (n : Named) (ss : List Stmt) → Contains ((in_stmt s).found scope) n → LocalTwice scope (s ∷ ss) n

-- behind a statement, with what it binds
behind_by : (s : Stmt) (ss : List Stmt) (scope : List Name) (n : Named) (o : Stmt-F Stmt) → out-Stmt s ≡ o
    → LocalTwice ((stmt_step (map-Stmt _ _ in_stmt o)).binds ++ scope) ss n → LocalTwice scope (s ∷ ss) n
behind_by s ss scope n (Stmt-F.Block body) h t = behind_other (λ f ty m e k. cc (h, k)) t
behind_by s ss scope n (Stmt-F.Local fixed ty m e) h t = behind_local fixed ty m e h t
behind_by s ss scope n (Stmt-F.Assign x e) h t = behind_other (λ f ty m e k. cc (h, k)) t
behind_by s ss scope n (Stmt-F.Set a x e) h t = behind_other (λ f ty m e k. cc (h, k)) t
behind_by s ss scope n (Stmt-F.Do e) h t = behind_other (λ f ty m e k. cc (h, k)) t
behind_by s ss scope n (Stmt-F.If e body other at) h t = behind_other (λ f ty m e k. cc (h, k)) t
behind_by s ss scope n (Stmt-F.While e body at) h t = behind_other (λ f ty m e k. cc (h, k)) t
behind_by s ss scope n (Stmt-F.Return e at) h t = behind_other (λ f ty m e k. cc (h, k)) t
behind_by s ss scope n (Stmt-F.Print e at) h t = behind_other (λ f ty m e k. cc (h, k)) t
behind_by s ss scope n (Stmt-F.PrintText x at) h t = behind_other (λ f ty m e k. cc (h, k)) t

behind : (s : Stmt) (ss : List Stmt) (scope : List Name) (n : Named) → LocalTwice ((in_stmt s).binds ++ scope) ss n → LocalTwice scope (s ∷ ss) n
behind s ss scope n t =
    behind_by s ss scope n (out-Stmt s) refl (subst (λ (x : InStmt). LocalTwice (x.binds ++ scope) ss n) (opened s (out-Stmt s) refl) t)

block_by : (s : Stmt) (ss : List Stmt) (scope : List Name) (n : Named) → Told s
    → (Contains (in_block (map in_stmt ss) ((in_stmt s).binds ++ scope)) n → LocalTwice ((in_stmt s).binds ++ scope) ss n)
    → Contains ((in_stmt s).found scope) n ⊎ Contains (in_block (map in_stmt ss) ((in_stmt s).binds ++ scope)) n → LocalTwice scope (s ∷ ss) n
block_by s ss scope n t k (inl c) = t scope n ss c
block_by s ss scope n t k (inr c) = behind s ss scope n (k c)

block_told : (ts : List ((s : Stmt) × Told s)) (scope : List Name) (n : Named) → Contains (in_block (map in_stmt (map (λ e. e.0) ts)) scope) n
    → LocalTwice scope (map (λ e. e.0) ts) n
block_told [] scope n c = absurd (in_none n c)
block_told (t ∷ ts) scope n c =
    block_by t.0 (map (λ e. e.0) ts) scope n t.1 (λ k. block_told ts ((in_stmt t.0).binds ++ scope) n k)
    (Contains-append_cases ((in_stmt t.0).found scope) (in_block (map in_stmt (map (λ e. e.0) ts)) ((in_stmt t.0).binds ++ scope)) n c)

-- what is found in a statement that is rolled up
found_in : (o : Stmt-F Stmt) (scope : List Name) (n : Named) → Contains ((in_stmt (roll-Stmt o)).found scope) n
    → Contains ((stmt_step (map-Stmt _ _ in_stmt o)).found scope) n
found_in o scope n c = subst (λ (x : InStmt). Contains (x.found scope) n) (opened (roll-Stmt o) o (out-roll-Stmt o)) c

abbrev bare : Stmt-F ((s : Stmt) × Told s) → Stmt-F Stmt
bare = map-Stmt _ _ (λ e. e.0)

either_block : (s : Stmt) (ss : List Stmt) (e : Expr) (at : Place) (ts us : List ((s : Stmt) × Told s)) (scope : List Name) (n : Named)
    → out-Stmt s ≡ Stmt-F.If e (map (λ e. e.0) ts) (map (λ e. e.0) us) at
    → Contains (in_block (map in_stmt (map (λ e. e.0) ts)) scope) n ⊎ Contains (in_block (map in_stmt (map (λ e. e.0) us)) scope) n
    → LocalTwice scope (s ∷ ss) n
either_block s ss e at ts us scope n h (inl c) = within_then e at h (block_told ts scope n c)
either_block s ss e at ts us scope n h (inr c) = within_else e at h (block_told us scope n c)

told : (y : Stmt-F ((s : Stmt) × Told s)) → Told (roll-Stmt (bare y))
told (Stmt-F.Block ts) scope n ss c =
    let o = Stmt-F.Block (map (λ e. e.0) ts) in
    within_block (out-roll-Stmt o) (block_told ts scope n (found_in o scope n c))
told (Stmt-F.Local fixed ty m e) scope n ss c =
    let o = Stmt-F.Local fixed ty m e in
    let k = only_has (has_name scope m.name) m n (found_in o scope n c) in
    subst (λ (x : Named). LocalTwice scope (roll-Stmt o ∷ ss) x) k.1 (declared fixed ty e (out-roll-Stmt o) (has_in scope m.name k.0))
told (Stmt-F.Assign m e) scope n ss c = absurd (in_none n (found_in (Stmt-F.Assign m e) scope n c))
told (Stmt-F.Set a m e) scope n ss c = absurd (in_none n (found_in (Stmt-F.Set a m e) scope n c))
told (Stmt-F.Do e) scope n ss c = absurd (in_none n (found_in (Stmt-F.Do e) scope n c))
told (Stmt-F.If e ts us at) scope n ss c =
    let o = Stmt-F.If e (map (λ e. e.0) ts) (map (λ e. e.0) us) at in
    either_block (roll-Stmt o) ss e at ts us scope n (out-roll-Stmt o)
    (Contains-append_cases (in_block (map in_stmt (map (λ e. e.0) ts)) scope) (in_block (map in_stmt (map (λ e. e.0) us)) scope) n (found_in o scope n c))
told (Stmt-F.While e ts at) scope n ss c =
    let o = Stmt-F.While e (map (λ e. e.0) ts) at in
    within_while e at (out-roll-Stmt o) (block_told ts scope n (found_in o scope n c))
told (Stmt-F.Return e at) scope n ss c = absurd (in_none n (found_in (Stmt-F.Return e at) scope n c))
told (Stmt-F.Print e at) scope n ss c = absurd (in_none n (found_in (Stmt-F.Print e at) scope n c))
told (Stmt-F.PrintText t at) scope n ss c = absurd (in_none n (found_in (Stmt-F.PrintText t at) scope n c))

all_told : (s : Stmt) → Told s
all_told = ind-Stmt Told (λ x y is. subst (λ z. Told (roll-Stmt z)) is (told y))

pub found_local : (scope : List Name) (ss : List Stmt) (n : Named) → Contains (in_block (map in_stmt ss) scope) n → LocalTwice scope ss n
found_local scope [] n c = absurd (in_none n c)
found_local scope (s ∷ ss) n c =
    block_by s ss scope n (all_told s) (λ k. found_local ((in_stmt s).binds ++ scope) ss n k)
    (Contains-append_cases ((in_stmt s).found scope) (in_block (map in_stmt ss) ((in_stmt s).binds ++ scope)) n c)

-- ---- a method

method_by : (m : Method) (n : Named) → Contains (seconds [] (map param_name m.params)) n ⊎ Contains (in_block (map in_stmt m.body) (param_scope m.params)) n → MethodTwice m n
method_by m n (inl c) = parameter (second_is (seconds_to [] (map param_name m.params) n c))
method_by m n (inr c) = local (found_local (param_scope m.params) m.body n c)

pub found_method : (m : Method) (n : Named) → Contains (in_method m) n → MethodTwice m n
found_method m n c = method_by m n (Contains-append_cases (seconds [] (map param_name m.params)) (in_block (map in_stmt m.body) (param_scope m.params)) n c)

pub method_found : (m : Method) (n : Named) → MethodTwice m n → Contains (in_method m) n
method_found m n (parameter s) =
    Contains-append_left (seconds [] (map param_name m.params)) (in_block (map in_stmt m.body) (param_scope m.params)) n
    (seconds_from [] (map param_name m.params) n (second_from s))
method_found m n (local t) =
    Contains-append_right (seconds [] (map param_name m.params)) (in_block (map in_stmt m.body) (param_scope m.params)) n
    (local_found (param_scope m.params) m.body n t)
