-- Lists of what stands twice, one step at a time.
use Rattle.std.proofs.Common.{◌≡◌, ◌∙◌, ℕ, Bool, true, false, cond, ◌||◌, List, [], ◌∷◌, ◌++◌, map, nat_eq, refl, ap, sym, subst, Option, Some, None, option_map, drop, take, length, length-take, ◌<◌, ◌≤◌, ◌+◌, suc, add-one, get_or, arith, append-nil, append_assoc, Result, Ok, IfOk}
use Rattle.std.proofs.Math.Seq.{drop-cons, take-length}
use Rattle.std.proofs.lemmas.List.{take-append-le}
use Rattle.std.proofs.Math.Bool.{or_comm}
use Rattle.std.proofs.Math.ListN.{drop_of_length-le}
use Rattle.std.proofs.lemmas.Cmp.{nat_eq_equiv}
use Rattle.std.proofs.lemmas.List.Folds.{list_any-append}
use Rattle.jn_base.specs.declared.tree.Name.{Name}
use Rattle.jn_base.specs.declared.tree.Named.{Named}
use Rattle.jn_base.specs.declared.tree.Param.{Param}
use Rattle.jn_base.specs.declared.tree.Stmt.{Stmt}
use Rattle.jn_base.specs.declared.tree.Decl.{Decl}
use Rattle.jn_base.specs.declared.tree.Member.{Member}
use Rattle.jn_base.specs.declared.refusal.Refusal.{Refusal}
use Rattle.jn_base.specs.Paths.{Path}
use Rattle.jn_base.specs.Duplicates.{Given, InMember, InDecl, InStmt, same_given, only_if, has_name, seconds, param_scope, in_block, in_stmt, in_member, in_members, in_decl, in_decls, refusal, duplicate}
use Rattle.std.specs.List.{list_any}
use Rattle.jn_header.specs.declared.twice.Seen.{Seen}
use Rattle.jn_header.specs.First.{first, IfPassed, SameNames, has_number, in_seen}
use Rattle.jn_header.proofs.TwiceEquations.{at_decl}

-- ---- the first of two lists

pub first_here : {A : Type 0} (xs ys : List A) (x : A) → first xs ≡ Some x → first (xs ++ ys) ≡ Some x
first_here [] ys x e = absurd (cc)
first_here (y ∷ xs) ys x e = e

pub first_behind : {A : Type 0} (xs ys : List A) → first xs ≡ None → first (xs ++ ys) ≡ first ys
first_behind [] ys e = refl
first_behind (y ∷ xs) ys e = absurd (cc)

pub first_map : {A B : Type 0} (f : A → B) (xs : List A) → first (map f xs) ≡ option_map f (first xs)
first_map f [] = refl
first_map f (x ∷ xs) = refl

-- ---- names in whatever order

pub or_cond : (a b : Bool) → cond a true b ≡ (a || b)
or_cond true b = refl
or_cond false b = refl

pub same_self : (xs : List Name) → SameNames xs xs
same_self xs n = refl

pub same_more : (xs ys zs : List Name) → SameNames xs ys → SameNames (xs ++ zs) (zs ++ ys)
same_more xs ys zs same n =
    list_any-append _ xs zs ∙ (ap (λ (b : Bool). b || has_name zs n) (same n) ∙ (or_comm (has_name ys n) (has_name zs n) ∙ sym (list_any-append _ zs ys)))

-- ---- what stands at a place of a list, and behind its end

pub at_index : {A : Type 0} (xs : List A) (i : ℕ) (x : A) → i < length xs → x ≡ get_or xs i x → drop i xs ≡ x ∷ drop (i + 1) xs
at_index xs i x h e = drop-cons xs i x h ∙ (ap (λ (y : _). y ∷ drop (suc i) xs) (sym e) ∙ ap (λ (n : ℕ). x ∷ drop n xs) (sym (add-one i)))

-- ---- seconds of a list

pub second_hit : (seen : List Name) (n : Named) (ns : List Named) → has_name seen n.name ≡ true → first (seconds seen (n ∷ ns)) ≡ Some n
second_hit seen n ns e = ap (λ (b : Bool). first (only_if b (n ∷ []) ++ seconds (n.name ∷ seen) ns)) e

pub second_passed : (seen : List Name) (n : Named) (ns : List Named) → has_name seen n.name ≡ false → first (seconds seen (n ∷ ns)) ≡ first (seconds (n.name ∷ seen) ns)
second_passed seen n ns e = ap (λ (b : Bool). first (only_if b (n ∷ []) ++ seconds (n.name ∷ seen) ns)) e

-- what is left of a list is sought behind the names before
pub record Left {A : Type 0} (named : A → Named) (start : List Name) (all : List A) (i : ℕ) (scope : List Name) : Type 0 where
  pub before : List Name
  pub same : SameNames scope before
  pub left : first (seconds start (map named all)) ≡ first (seconds before (map named (drop i all)))

module _ {A : Type 0} (named : A → Named) (start : List Name) (all : List A) where
  pub left_first : (scope : List Name) → SameNames scope start → Left named start all 0 scope
  left_first scope same = record { before = start; same = same; left = refl }

  opened : (i : ℕ) (x : A) (scope : List Name) (l : Left named start all i scope) → i < length all → x ≡ get_or all i x
      → first (seconds start (map named all)) ≡ first (seconds l.before (named x ∷ map named (drop (i + 1) all)))
  opened i x scope l h e = l.left ∙ ap (λ (xs : List A). first (seconds l.before (map named xs))) (at_index all i x h e)

  pub left_hit : (i : ℕ) (x : A) (scope : List Name) → Left named start all i scope → i < length all → x ≡ get_or all i x
      → has_name scope (named x).name ≡ true → Some (named x) ≡ first (seconds start (map named all))
  left_hit i x scope l h e is = sym (opened i x scope l h e ∙ second_hit l.before (named x) _ (sym (l.same (named x).name) ∙ is))

  pub left_next : (i : ℕ) (x : A) (scope scope' : List Name) → Left named start all i scope → i < length all → x ≡ get_or all i x
      → has_name scope (named x).name ≡ false → scope' ≡ scope ++ (named x).name ∷ [] → Left named start all (i + 1) scope'
  left_next i x scope scope' l h e is added = record {
    before = (named x).name ∷ l.before;
    same = subst (λ (xs : List Name). SameNames xs ((named x).name ∷ l.before)) (sym added) (same_more scope l.before ((named x).name ∷ []) l.same);
    left = opened i x scope l h e ∙ second_passed l.before (named x) _ (sym (l.same (named x).name) ∙ is);
  }

  pub left_none : (i : ℕ) (scope : List Name) → Left named start all i scope → length all ≤ i → None ≡ first (seconds start (map named all))
  left_none i scope l h = sym (l.left ∙ ap (λ (xs : List A). first (seconds l.before (map named xs))) (drop_of_length-le all {i = i} h))

-- the names of parameters, added one by one
pub params_more : (all : List Param) (i : ℕ) (x : Param) (scope scope' whole : List Name) → i < length all → x ≡ get_or all i x
    → scope ++ param_scope (drop i all) ≡ whole → scope' ≡ scope ++ x.name.name ∷ [] → scope' ++ param_scope (drop (i + 1) all) ≡ whole
params_more all i x scope scope' whole h e is added =
    ap (λ (xs : List Name). xs ++ param_scope (drop (i + 1) all)) added
    ∙ (append_assoc scope (x.name.name ∷ []) (param_scope (drop (i + 1) all))
    ∙ (sym (ap (λ (xs : List Param). scope ++ param_scope xs) (at_index all i x h e)) ∙ is))

pub params_all : (all : List Param) (i : ℕ) (scope whole : List Name) → scope ++ param_scope (drop i all) ≡ whole → length all ≤ i → scope ≡ whole
params_all all i scope whole is h = sym (append-nil scope) ∙ (sym (ap (λ (xs : List Param). scope ++ param_scope xs) (drop_of_length-le all {i = i} h)) ∙ is)

map_itself : (ns : List Named) → map (λ (n : Named). n) ns ≡ ns
map_itself [] = refl
map_itself (n ∷ ns) = ap (λ (xs : List Named). n ∷ xs) (map_itself ns)

pub as_named : (ns : List Named) → first (seconds [] (map (λ (n : Named). n) ns)) ≡ first (seconds [] ns)
as_named ns = ap (λ (xs : List Named). first (seconds [] xs)) (map_itself ns)

-- ---- statements of a block

pub all_taken : (xs : List Name) (n : ℕ) → n ≡ length xs → take n xs ≡ xs
all_taken xs n e = ap (λ (k : ℕ). take k xs) e ∙ take-length xs

length_of_front : (old xs : List Name) (n : ℕ) → n ≡ length old → take n xs ≡ old → n ≤ length xs
length_of_front old xs n e is = let k : length (take n xs) ≡ length old = ap length is in let m = length-take n xs in grind arith

pub still_front : (old xs zs ys : List Name) (n : ℕ) → n ≡ length old → take n xs ≡ old → ys ≡ xs ++ zs → take n ys ≡ old
still_front old xs zs ys n e is more = ap (λ (l : List Name). take n l) more ∙ (take-append-le n xs zs (length_of_front old xs n e is) ∙ is)

pub passed : {A P : Type 0} (E : Type 0) (o : Option A) → o ≡ None → IfPassed {A = A} {E = E} (Ok o) P → P
passed E None e p = p
passed E (Some x) e p = absurd (cc)

pub found_as : {E : Type 0} (s : Stmt) (x : InStmt) (scope : List Name) (r : Result (Option Named) E) → in_stmt s ≡ x
    → IfOk r (λ found. (S : List Name) → SameNames scope S → found ≡ first (x.found S))
    → IfOk r (λ found. (S : List Name) → SameNames scope S → found ≡ first ((in_stmt s).found S))
found_as s x scope r e is = subst (λ (y : InStmt). IfOk r (λ found. (S : List Name) → SameNames scope S → found ≡ first (y.found S))) (sym e) is

pub record LeftOfBlock (all : List Stmt) (start : List Name) (i : ℕ) (scope : List Name) : Type 0 where
  pub before : List Name
  pub same : SameNames scope before
  pub left : first (in_block (map in_stmt all) start) ≡ first (in_block (map in_stmt (drop i all)) before)

module _ (all : List Stmt) (start : List Name) where
  pub block_first : (scope : List Name) → SameNames scope start → LeftOfBlock all start 0 scope
  block_first scope same = record { before = start; same = same; left = refl }

  block_opened : (i : ℕ) (s : Stmt) (scope : List Name) (l : LeftOfBlock all start i scope) → i < length all → s ≡ get_or all i s
      → first (in_block (map in_stmt all) start) ≡ first ((in_stmt s).found l.before ++ in_block (map in_stmt (drop (i + 1) all)) ((in_stmt s).binds ++ l.before))
  block_opened i s scope l h e = l.left ∙ ap (λ (xs : List Stmt). first (in_block (map in_stmt xs) l.before)) (at_index all i s h e)

  pub block_hit : (i : ℕ) (s : Stmt) (scope : List Name) (n : Named) → LeftOfBlock all start i scope → i < length all → s ≡ get_or all i s
      → ((S : List Name) → SameNames scope S → Some n ≡ first ((in_stmt s).found S)) → Some n ≡ first (in_block (map in_stmt all) start)
  block_hit i s scope n l h e is = sym (block_opened i s scope l h e ∙ first_here _ _ n (sym (is l.before l.same)))

  pub block_next : (i : ℕ) (s : Stmt) (scope scope' : List Name) → LeftOfBlock all start i scope → i < length all → s ≡ get_or all i s
      → ((S : List Name) → SameNames scope S → None ≡ first ((in_stmt s).found S)) → scope' ≡ scope ++ (in_stmt s).binds → LeftOfBlock all start (i + 1) scope'
  block_next i s scope scope' l h e is bound = record {
    before = (in_stmt s).binds ++ l.before;
    same = subst (λ (xs : List Name). SameNames xs ((in_stmt s).binds ++ l.before)) (sym bound) (same_more scope l.before (in_stmt s).binds l.same);
    left = block_opened i s scope l h e ∙ first_behind _ _ (sym (is l.before l.same));
  }

  pub block_none : (i : ℕ) (scope : List Name) → LeftOfBlock all start i scope → length all ≤ i → None ≡ first (in_block (map in_stmt all) start)
  block_none i scope l h = sym (l.left ∙ ap (λ (xs : List Stmt). first (in_block (map in_stmt xs) l.before)) (drop_of_length-le all {i = i} h))

-- ---- members of a body

-- the names of the members before, in their name spaces
abbrev pub SameGiven : Seen → List Given → Type 0
SameGiven seen before = (g : Given) → in_seen seen g ≡ list_any (same_given g) before

pub record LeftOfMembers (R : Path) (all : List Member) (i : ℕ) (seen : Seen) : Type 0 where
  pub before : List Given
  pub same : SameGiven seen before
  pub left : first (in_members R [] (map in_member all)) ≡ first (in_members R before (map in_member (drop i all)))

member_hit : (R : Path) (before : List Given) (m : InMember) (ms : List InMember) → list_any (same_given m.given) before ≡ true
    → first (in_members R before (m ∷ ms)) ≡ Some (duplicate R m.given.name)
member_hit R before m ms e = ap (λ (b : Bool). first (only_if b (duplicate R m.given.name ∷ []) ++ (m.inside R ++ in_members R (m.given ∷ before) ms))) e

member_passed : (R : Path) (before : List Given) (m : InMember) (ms : List InMember) → list_any (same_given m.given) before ≡ false
    → first (in_members R before (m ∷ ms)) ≡ first (m.inside R ++ in_members R (m.given ∷ before) ms)
member_passed R before m ms e = ap (λ (b : Bool). first (only_if b (duplicate R m.given.name ∷ []) ++ (m.inside R ++ in_members R (m.given ∷ before) ms))) e

module _ (R : Path) (all : List Member) where
  pub members_first : (seen : Seen) → SameGiven seen [] → LeftOfMembers R all 0 seen
  members_first seen same = record { before = []; same = same; left = refl }

  members_opened : (i : ℕ) (m : Member) (seen : Seen) (l : LeftOfMembers R all i seen) → i < length all → m ≡ get_or all i m
      → first (in_members R [] (map in_member all)) ≡ first (in_members R l.before (in_member m ∷ map in_member (drop (i + 1) all)))
  members_opened i m seen l h e = l.left ∙ ap (λ (xs : List Member). first (in_members R l.before (map in_member xs))) (at_index all i m h e)

  pub members_hit : (i : ℕ) (m : Member) (seen : Seen) → LeftOfMembers R all i seen → i < length all → m ≡ get_or all i m
      → in_seen seen (in_member m).given ≡ true → Some (duplicate R (in_member m).given.name) ≡ first (in_members R [] (map in_member all))
  members_hit i m seen l h e is = sym (members_opened i m seen l h e ∙ member_hit R l.before (in_member m) _ (sym (l.same (in_member m).given) ∙ is))

  pub members_inside : (i : ℕ) (m : Member) (seen : Seen) (r : Refusal) → LeftOfMembers R all i seen → i < length all → m ≡ get_or all i m
      → in_seen seen (in_member m).given ≡ false → Some r ≡ first ((in_member m).inside R) → Some r ≡ first (in_members R [] (map in_member all))
  members_inside i m seen r l h e is found =
      sym (members_opened i m seen l h e ∙ (member_passed R l.before (in_member m) _ (sym (l.same (in_member m).given) ∙ is) ∙ first_here _ _ r (sym found)))

  pub members_next : (i : ℕ) (m : Member) (seen seen' : Seen) → LeftOfMembers R all i seen → i < length all → m ≡ get_or all i m
      → in_seen seen (in_member m).given ≡ false → None ≡ first ((in_member m).inside R)
      → ((g : Given) → in_seen seen' g ≡ (same_given g (in_member m).given || in_seen seen g)) → LeftOfMembers R all (i + 1) seen'
  members_next i m seen seen' l h e is none added = record {
    before = (in_member m).given ∷ l.before;
    same = λ g. added g ∙ ap (λ (b : Bool). same_given g (in_member m).given || b) (l.same g);
    left = members_opened i m seen l h e ∙ (member_passed R l.before (in_member m) _ (sym (l.same (in_member m).given) ∙ is) ∙ first_behind _ _ (sym none));
  }

  pub members_none : (i : ℕ) (seen : Seen) → LeftOfMembers R all i seen → length all ≤ i → None ≡ first (in_members R [] (map in_member all))
  members_none i seen l h = sym (l.left ∙ ap (λ (xs : List Member). first (in_members R l.before (map in_member xs))) (drop_of_length-le all {i = i} h))

-- ---- top-level declarations

pub record LeftOfDecls (all : List Decl) (i : ℕ) (seen : List ℕ) : Type 0 where
  pub before : List Name
  pub same : (n : Name) → has_number seen n ≡ has_name before n
  pub left : first (in_decls [] (map in_decl all)) ≡ first (in_decls before (map in_decl (drop i all)))

decl_hit : (before : List Name) (d : InDecl) (ds : List InDecl) → has_name before d.name.name ≡ true → first (in_decls before (d ∷ ds)) ≡ Some (refusal None d.name)
decl_hit before d ds e = ap (λ (b : Bool). first (only_if b (refusal None d.name ∷ []) ++ (d.inside [] ++ in_decls (d.name.name ∷ before) ds))) e

decl_passed : (before : List Name) (d : InDecl) (ds : List InDecl) → has_name before d.name.name ≡ false
    → first (in_decls before (d ∷ ds)) ≡ first (d.inside [] ++ in_decls (d.name.name ∷ before) ds)
decl_passed before d ds e = ap (λ (b : Bool). first (only_if b (refusal None d.name ∷ []) ++ (d.inside [] ++ in_decls (d.name.name ∷ before) ds))) e

module _ (all : List Decl) where
  pub decls_first : (seen : List ℕ) → seen ≡ [] → LeftOfDecls all 0 seen
  decls_first seen e = record { before = []; same = λ n. ap (λ (xs : List ℕ). has_number xs n) e; left = refl }

  decls_opened : (i : ℕ) (d : Decl) (seen : List ℕ) (l : LeftOfDecls all i seen) → i < length all → d ≡ get_or all i d
      → first (in_decls [] (map in_decl all)) ≡ first (in_decls l.before (in_decl d ∷ map in_decl (drop (i + 1) all)))
  decls_opened i d seen l h e = l.left ∙ ap (λ (xs : List Decl). first (in_decls l.before (map in_decl xs))) (at_index all i d h e)

  named_as : (d : Decl) (xs : List Name) (b : Bool) → has_name xs d.name.name ≡ b → has_name xs (in_decl d).name.name ≡ b
  named_as d xs b e = ap (λ (x : InDecl). has_name xs x.name.name) (at_decl d) ∙ e

  pub decls_hit : (i : ℕ) (d : Decl) (seen : List ℕ) → LeftOfDecls all i seen → i < length all → d ≡ get_or all i d
      → has_number seen d.name.name ≡ true → Some (refusal None d.name) ≡ first (in_decls [] (map in_decl all))
  decls_hit i d seen l h e is =
      sym (decls_opened i d seen l h e ∙ (decl_hit l.before (in_decl d) _ (named_as d l.before true (sym (l.same d.name.name) ∙ is)) ∙ ap (λ (x : InDecl). Some (refusal None x.name)) (at_decl d)))

  pub decls_inside : (i : ℕ) (d : Decl) (seen : List ℕ) (r : Refusal) → LeftOfDecls all i seen → i < length all → d ≡ get_or all i d
      → has_number seen d.name.name ≡ false → Some r ≡ first ((in_decl d).inside []) → Some r ≡ first (in_decls [] (map in_decl all))
  decls_inside i d seen r l h e is found =
      sym (decls_opened i d seen l h e ∙ (decl_passed l.before (in_decl d) _ (named_as d l.before false (sym (l.same d.name.name) ∙ is)) ∙ first_here _ _ r (sym found)))

  pub decls_next : (i : ℕ) (d : Decl) (seen seen' : List ℕ) → LeftOfDecls all i seen → i < length all → d ≡ get_or all i d
      → has_number seen d.name.name ≡ false → None ≡ first ((in_decl d).inside [])
      → ((n : Name) → has_number seen' n ≡ (nat_eq n.0 d.name.name.0 || has_number seen n)) → LeftOfDecls all (i + 1) seen'
  decls_next i d seen seen' l h e is none added = record {
    before = (in_decl d).name.name ∷ l.before;
    same = λ n.
        added n
        ∙ (ap (λ (b : Bool). b || has_number seen n) (nat_eq_equiv.symm n.0 d.name.name.0)
        ∙ (ap (λ (b : Bool). nat_eq d.name.name.0 n.0 || b) (l.same n)
        ∙ ap (λ (x : InDecl). has_name (x.name.name ∷ l.before) n) (sym (at_decl d))));
    left = decls_opened i d seen l h e ∙ (decl_passed l.before (in_decl d) _ (named_as d l.before false (sym (l.same d.name.name) ∙ is)) ∙ first_behind _ _ (sym none));
  }

  pub decls_none : (i : ℕ) (seen : List ℕ) → LeftOfDecls all i seen → length all ≤ i → None ≡ first (in_decls [] (map in_decl all))
  decls_none i seen l h = sym (l.left ∙ ap (λ (xs : List Decl). first (in_decls l.before (map in_decl xs))) (drop_of_length-le all {i = i} h))
