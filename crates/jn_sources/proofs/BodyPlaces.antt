-- The places of what stands twice in a declaration, in the order of its words.
use Rattle.std.proofs.Common.{◌≡◌, ℕ, List, [], ◌∷◌, ◌++◌, map, refl, sym, ap, ◌∙◌, subst, append_assoc, append-nil, Bool, None}
use Rattle.std.specs.List.{list_any}
use Rattle.jn_base.specs.declared.tree.Name.{Name}
use Rattle.jn_base.specs.declared.tree.Named.{Named}
use Rattle.jn_base.specs.declared.tree.Place.{Place}
use Rattle.jn_base.specs.declared.tree.Kind.{Kind}
use Rattle.jn_base.specs.declared.tree.Method.{Method}
use Rattle.jn_base.specs.declared.tree.Decl.{Decl}
use Rattle.jn_base.specs.declared.tree.Member.{Member, out-Member}
use Rattle.jn_base.specs.declared.tree.Member.TheOpen.{Member-F}
use Rattle.jn_base.specs.declared.tree.Member.TheVariants as member
use Rattle.jn_base.specs.declared.tree.Member.TheVariants.{outs-Inner, outs-Slot, outs-Body}
use Rattle.jn_base.specs.declared.tree.Member.TheFolds.{map-Member}
use Rattle.jn_base.specs.declared.word.Keyword.{Keyword}
use Rattle.jn_base.specs.declared.refusal.Refusal.{Refusal}
use Rattle.jn_base.specs.Parts.{Part, Declares, mark, named, new_name}
use Rattle.jn_base.specs.declared.word.Keyword.TheVariants.{Adapts, Extends, Shares}
use Rattle.jn_base.specs.declared.word.Mark.TheVariants.{CloseBrace, CloseParen}
use Rattle.jn_base.specs.Paths.{Path}
use Rattle.jn_base.specs.GrammarDecl.{decl, IsListed, IsList, IsInner, IsMember, IsMembers, IsTop, IsProgram}
use Rattle.jn_base.specs.Duplicates.{only_if, has_name, seconds, param_name, param_scope, in_stmt, in_block, in_method, refusal, duplicate, Given, same_given, InMember, InDecl, in_members, in_decls, in_lists, in_member, in_decl, member_step}
use Rattle.jn_base.proofs.Unique.{decl_opened, member_opened, name_is}
use Rattle.jn_sources.proofs.Subsequence.{Sub, at_of, refused_at, skip, take, none, both, before, behind, maybe, places_both, places_if, places_found, some_seconds}
use Rattle.jn_sources.proofs.ProgramWords.{front}
use Rattle.jn_sources.proofs.LocalPlaces.{params_sub, stmts_found}

abbrev At : List Refusal → List Part → Type 0
At rs w = Sub (map refused_at rs) w

-- ---- lists of names

listed_sub : (w : List Part) (ns : List Named) → IsListed w ns → Sub (map at_of ns) w
listed_sub _ _ IsListed.last_name = take (none [])
listed_sub _ _ (IsListed.then_name {w = w} {xs = xs} i) = take (skip (listed_sub w xs i))

list_sub : (k : Keyword) (w : List Part) (ns : List Named) → IsList k w ns → Sub (map at_of ns) w
list_sub k _ _ IsList.no_list = none []
list_sub k _ _ (IsList.list {w = w} {xs = xs} i) = skip (listed_sub w xs i)

lists_at : (R : Path) (es ss adapted : List Named) (w : List Part)
    → Sub (map at_of (seconds [] es) ++ (map at_of (seconds [] ss) ++ map at_of (seconds [] adapted))) w
    → At (in_lists R es ss adapted) w
lists_at R es ss adapted w s =
    subst (λ (ps : List Place). Sub ps w)
    (sym (places_found R (seconds [] es ++ (seconds [] ss ++ seconds [] adapted)) ∙ places_both at_of (seconds [] es)
    (seconds [] ss ++ seconds [] adapted)
    ∙ ap (λ (ps : List Place). map at_of (seconds [] es) ++ ps)
    (places_both at_of (seconds [] ss) (seconds [] adapted)))) s

-- ---- a declaration

-- its name, where it is found twice, and what is found inside it
abbrev DeclAt : List Part → Decl → Type 0
DeclAt w t =
    (b : Bool) (P : Path) → Sub (only_if b ((in_decl t).name.at ∷ []) ++ map refused_at ((in_decl t).inside P)) w

decl_inside : (d : Decl) (P : Path) (u v y : List Part)
    → At (in_lists (d.name.name ∷ P) d.extends d.shares d.adapts) (u ++ v)
    → At (in_members (d.name.name ∷ P) [] (map in_member d.members)) y → At ((in_decl d).inside P) (u ++ (v ++ y))
decl_inside d P u v y a b =
    let lists : List Refusal = in_lists (d.name.name ∷ P) d.extends d.shares d.adapts in
    let inner : List Refusal = in_members (d.name.name ∷ P) [] (map in_member d.members) in
    subst (λ (w : List Part). At ((in_decl d).inside P) w) (append_assoc u v y)
    (subst (λ (rs : List Refusal). At rs ((u ++ v) ++ y)) (sym (ap (λ (x : InDecl). x.inside P) (decl_opened d)))
    (subst (λ (ps : List Place). Sub ps ((u ++ v) ++ y)) (sym (places_both refused_at lists inner)) (both a b)))

decl_at : (t : Decl) (k s : Part) (w : List Part) → s.at ≡ t.name.at → ((P : Path) → At ((in_decl t).inside P) w)
    → DeclAt (k ∷ s ∷ w) t
decl_at t k s w e f b P =
    subst (λ (at : Place). Sub (only_if b (at ∷ []) ++ map refused_at ((in_decl t).inside P)) (k ∷ s ∷ w))
    (e ∙ sym (ap (λ (n : Named). n.at) (name_is t))) (skip (maybe b (f P)))

-- ---- members

abbrev MemberAt : List Part → Member → Type 0
MemberAt w m =
    (b : Bool) (R : Path)
    → Sub (only_if b ((in_member m).given.name.at ∷ []) ++ map refused_at ((in_member m).inside R)) w

abbrev FormAt : List Part → Member-F Member Decl → Type 0
FormAt w o = (b : Bool) (R : Path) →
    Sub (only_if b ((member_step (map-Member _ _ _ _ in_member in_decl o)).given.name.at ∷ [])
    ++ map refused_at ((member_step (map-Member _ _ _ _ in_member in_decl o)).inside R)) w

member_at : (w : List Part) (m : Member) (o : Member-F Member Decl) → out-Member m ≡ o → FormAt w o → MemberAt w m
member_at w m o e f b R =
    subst (λ (x : InMember). Sub (only_if b (x.given.name.at ∷ []) ++ map refused_at (x.inside R)) w)
    (sym (member_opened m ∙ ap (λ (x : Member-F Member Decl). member_step
    (map-Member _ _ _ _ in_member in_decl x)) e)) (f b R)

method_sub : (m : Method) (v u w : List Part) (c b e : Part) (R : Path) → Sub (map at_of (map param_name m.params)) v
    → Sub (map at_of (in_block (map in_stmt m.body) (param_scope m.params))) w
    → At (map (duplicate R) (in_method m)) (v ++ (c ∷ (u ++ (b ∷ (w ++ e ∷ [])))))
method_sub m v u w c b e R params locals =
    subst (λ (ps : List Place). Sub ps (v ++ (c ∷ (u ++ (b ∷ (w ++ e ∷ []))))))
    (sym (places_found R (in_method m) ∙ places_both at_of (seconds [] (map param_name m.params))
    (in_block (map in_stmt m.body) (param_scope m.params))))
    (both (some_seconds [] (map param_name m.params) v params) (skip (behind u (skip (before (e ∷ []) locals)))))

-- one and then those behind it
then_at : (b : Bool) (x : Refusal) (rs others : List Refusal) {v w : List Part}
    → Sub (only_if b (x.at ∷ []) ++ map refused_at rs) v → At others w
    → At (only_if b (x ∷ []) ++ (rs ++ others)) (v ++ w)
then_at b x rs others {v} {w} s t =
    subst (λ (ps : List Place). Sub ps (v ++ w))
    (append_assoc (only_if b (x.at ∷ [])) (map refused_at rs) (map refused_at others)
    ∙ ap (λ (ps : List Place). only_if b (x.at ∷ []) ++ ps) (sym (places_both refused_at rs others))
    ∙ sym (places_if refused_at b x (rs ++ others)))
    (both s t)

mutual
  inner_sub : {d n : ℕ} (w : List Part) (t : Decl) → IsInner d n w t → DeclAt w t
  inner_sub _ _ (IsInner.inner {d = d} {n = n} {k = k} {x = x} {p = p} o c {t = t} {u = u} {v = v} {w = w}
      {es = es} {ss = ss} {ms = ms} i j l m) =
      decl_at (decl k (named x p) es ss [] ms) t (new_name (Declares n) x p) _ refl (λ P.
      decl_inside (decl k (named x p) es ss [] ms) P u v _
      (lists_at (x ∷ P) es ss [] (u ++ v)
      (both (some_seconds [] es u (list_sub Extends u es j))
      (subst (λ (ps : List Place). Sub ps v) (sym (append-nil (map at_of (seconds [] ss))))
      (some_seconds [] ss v (list_sub Shares v ss l)))))
      (skip (before (mark CloseBrace c ∷ []) (members_sub w ms m (x ∷ P) []))))

  member_sub : {k : Kind} {d n : ℕ} (w : List Part) (m : Member) → IsMember k d n w m → MemberAt w m
  member_sub _ _ (IsMember.declared {w = w} {t = t} i) =
      member_at w (member.Inner t) _ (outs-Inner t) (inner_sub w t i)
  member_sub _ _ (IsMember.slot {x = x} p s {w = w} {t = t} i) =
      member_at _ (member.Slot (record { ty = t; name = named x p })) _
      (outs-Slot (record { ty = t; name = named x p })) (λ b R. behind w (maybe b (none _)))
  member_sub _ _ (IsMember.method {x = x} p o c b e {r = r} {v = v} {u = u} {w = w} {res = res} {ts = ts}
      {cs = cs} {ss = ss} i j l m) =
      let x' : Method = record { result = res; name = named x p; params = ts; sharing = cs; body = ss } in
      member_at _ (member.Body x') _ (outs-Body x')
      (λ twice R. behind r (maybe twice
      (skip (method_sub x' v u w (mark CloseParen c) _ (mark CloseBrace e) R (params_sub v ts j)
      (stmts_found w ss m (param_scope ts))))))

  members_sub : {k : Kind} {d n : ℕ} (w : List Part) (ms : List Member) → IsMembers k d n w ms
      → (R : Path) (given : List Given) → At (in_members R given (map in_member ms)) w
  members_sub _ _ IsMembers.no_member R given = none []
  members_sub _ _ (IsMembers.then_member {v = v} {w = w} {t = t} {ts = ts} i j) R given =
      let twice : Bool = list_any (same_given (in_member t).given) given in
      then_at twice (duplicate R (in_member t).given.name) ((in_member t).inside R)
      (in_members R ((in_member t).given ∷ given) (map in_member ts))
      (member_sub v t i twice R) (members_sub w ts j R ((in_member t).given ∷ given))

-- ---- a program

top_sub : (w : List Part) (t : Decl) → IsTop w t → DeclAt w t
top_sub _ _ (IsTop.top {k = k} {x = x} {p = p} o c {t = t} {u = u} {v = v} {w = w} {es = es}
    {adapted = adapted} {ms = ms} i j l m) =
    decl_at (decl k (named x p) es [] adapted ms) t (new_name (Declares 1) x p) _ refl (λ P.
    decl_inside (decl k (named x p) es [] adapted ms) P u v _
    (lists_at (x ∷ P) es [] adapted (u ++ v)
    (both (some_seconds [] es u (list_sub Extends u es j)) (some_seconds [] adapted v (list_sub Adapts v adapted l))))
    (skip (before (mark CloseBrace c ∷ []) (members_sub w ms m (x ∷ P) []))))

pub tops_sub : {w : List Part} (ds : List Decl) (i : IsProgram w ds) (seen : List Name)
    → At (in_decls seen (map in_decl ds)) (front i)
tops_sub _ IsProgram.no_top seen = none []
tops_sub _ (IsProgram.then_top {v = v} {t = t} {ts = ts} i j) seen =
    let twice : Bool = has_name seen (in_decl t).name.name in
    then_at twice (refusal None (in_decl t).name) ((in_decl t).inside [])
    (in_decls ((in_decl t).name.name ∷ seen) (map in_decl ts))
    (top_sub v t i twice []) (tops_sub ts j ((in_decl t).name.name ∷ seen))
