-- The words of a program before the end of the file, and those of its bodies among them.
use Rattle.std.proofs.Common.{◌≡◌, ℕ, suc, List, [], ◌∷◌, ◌++◌, map, refl, sym, ap, ◌∙◌, subst, append_assoc, inl, inr, Contains}
use Rattle.jn_base.specs.declared.tree.Place.{Place}
use Rattle.jn_base.specs.declared.tree.Kind.{Kind}
use Rattle.jn_base.specs.declared.tree.Decl.{Decl}
use Rattle.jn_base.specs.declared.tree.Program.{Program}
use Rattle.jn_base.specs.declared.tree.Member.{Member}
use Rattle.jn_base.specs.declared.tree.Member.TheOpen.{Member-F}
use Rattle.jn_base.specs.declared.tree.Member.TheVariants.{outs-Inner, outs-Slot, outs-Body}
use Rattle.jn_base.specs.Parts.{Part, end_of_file, named}
use Rattle.jn_base.specs.Paths.{Path, StandsIn, nested, and_nested, fields, and_field, methods, and_method}
use Rattle.jn_base.specs.GrammarDecl.{IsInner, IsMember, IsMembers, IsTop, IsProgram}
use Rattle.jn_base.specs.Twice.{decl_name, field_name, method_name}
use Rattle.jn_base.proofs.NameTests.{in_cons, in_none}
use Rattle.jn_sources.specs.SourceOrder.{named_places}
use Rattle.jn_sources.proofs.Subsequence.{Sub, skip, take, none, both, before, behind}

abbrev pub front : {w : List Part} {ds : List Decl} → IsProgram w ds → List Part
front IsProgram.no_top = []
front (IsProgram.then_top {v = v} i j) = v ++ front j

abbrev pub end_place : {w : List Part} {ds : List Decl} → IsProgram w ds → Place
end_place (IsProgram.no_top {p = p}) = p
end_place (IsProgram.then_top i j) = end_place j

pub front_split : {w : List Part} {ds : List Decl} (i : IsProgram w ds) → w ≡ front i ++ end_of_file (end_place i) ∷ []
front_split IsProgram.no_top = refl
front_split (IsProgram.then_top {v = v} i j) =
    ap (λ (u : List Part). v ++ u) (front_split j) ∙ sym (append_assoc v (front j) (end_of_file (end_place j) ∷ []))

-- ---- the names of the members of a body

decl_there : {d n : ℕ} (w : List Part) (t : Decl) → IsInner d n w t → Sub (t.name.at ∷ []) w
decl_there _ _ (IsInner.inner o c i j l m) = skip (take (none _))

top_there : (w : List Part) (t : Decl) → IsTop w t → Sub (t.name.at ∷ []) w
top_there _ _ (IsTop.top o c i j l m) = skip (take (none _))

pub top_names : {w : List Part} {ds : List Decl} (i : IsProgram w ds) → Sub (named_places (map decl_name ds)) (front i)
top_names IsProgram.no_top = none []
top_names (IsProgram.then_top {v = v} {t = t} i j) = both (top_there v t i) (top_names j)

pub nested_names : {k : Kind} {d n : ℕ} (w : List Part) (ms : List Member) → IsMembers k d n w ms
    → Sub (named_places (map decl_name (nested ms))) w
nested_names _ _ IsMembers.no_member = none []
nested_names _ _ (IsMembers.then_member {v = v} {w = w} {ts = ts} (IsMember.declared {t = t} i) j) =
    subst (λ (o : Member-F Member Decl). Sub (named_places (map decl_name (and_nested o (nested ts)))) (v ++ w))
    (sym (outs-Inner t))
    (both (decl_there v t i) (nested_names w ts j))
nested_names _ _ (IsMembers.then_member {v = v} {w = w} {ts = ts} (IsMember.slot {x = x} p s {t = t} i) j) =
    subst (λ (o : Member-F Member Decl). Sub (named_places (map decl_name (and_nested o (nested ts)))) (v ++ w))
    (sym (outs-Slot (record { ty = t; name = named x p })))
    (behind v (nested_names w ts j))
nested_names _ _ (IsMembers.then_member {v = v} {w = w} {ts = ts}
    (IsMember.method {x = x} p o c b e {res = res} {ts = ps} {cs = cs} {ss = ss} f g h m) j) =
    subst (λ (o : Member-F Member Decl). Sub (named_places (map decl_name (and_nested o (nested ts)))) (v ++ w))
    (sym (outs-Body (record { result = res; name = named x p; params = ps; sharing = cs; body = ss })))
    (behind v (nested_names w ts j))

pub field_names : {k : Kind} {d n : ℕ} (w : List Part) (ms : List Member) → IsMembers k d n w ms
    → Sub (named_places (map field_name (fields ms))) w
field_names _ _ IsMembers.no_member = none []
field_names _ _ (IsMembers.then_member {v = v} {w = w} {ts = ts} (IsMember.declared {t = t} i) j) =
    subst (λ (o : Member-F Member Decl). Sub (named_places (map field_name (and_field o (fields ts)))) (v ++ w))
    (sym (outs-Inner t))
    (behind v (field_names w ts j))
field_names _ _ (IsMembers.then_member {v = v} {w = w} {ts = ts} (IsMember.slot {x = x} p s {w = u} {t = t} i) j) =
    subst (λ (o : Member-F Member Decl). Sub (named_places (map field_name (and_field o (fields ts)))) (v ++ w))
    (sym (outs-Slot (record { ty = t; name = named x p })))
    (both (behind u (take (none _))) (field_names w ts j))
field_names _ _ (IsMembers.then_member {v = v} {w = w} {ts = ts}
    (IsMember.method {x = x} p o c b e {res = res} {ts = ps} {cs = cs} {ss = ss} f g h m) j) =
    subst (λ (o : Member-F Member Decl). Sub (named_places (map field_name (and_field o (fields ts)))) (v ++ w))
    (sym (outs-Body (record { result = res; name = named x p; params = ps; sharing = cs; body = ss })))
    (behind v (field_names w ts j))

pub method_names : {k : Kind} {d n : ℕ} (w : List Part) (ms : List Member) → IsMembers k d n w ms
    → Sub (named_places (map method_name (methods ms))) w
method_names _ _ IsMembers.no_member = none []
method_names _ _ (IsMembers.then_member {v = v} {w = w} {ts = ts} (IsMember.declared {t = t} i) j) =
    subst (λ (o : Member-F Member Decl). Sub (named_places (map method_name (and_method o (methods ts)))) (v ++ w))
    (sym (outs-Inner t))
    (behind v (method_names w ts j))
method_names _ _ (IsMembers.then_member {v = v} {w = w} {ts = ts} (IsMember.slot {x = x} p s {t = t} i) j) =
    subst (λ (o : Member-F Member Decl). Sub (named_places (map method_name (and_method o (methods ts)))) (v ++ w))
    (sym (outs-Slot (record { ty = t; name = named x p })))
    (behind v (method_names w ts j))
method_names _ _ (IsMembers.then_member {v = v} {w = w} {ts = ts}
    (IsMember.method {x = x} p o c b e {r = r} {res = res} {ts = ps} {cs = cs} {ss = ss} f g h m) j) =
    subst (λ (o : Member-F Member Decl). Sub (named_places (map method_name (and_method o (methods ts)))) (v ++ w))
    (sym (outs-Body (record { result = res; name = named x p; params = ps; sharing = cs; body = ss })))
    (both (behind r (take (none _))) (method_names w ts j))

-- ---- the words of a body

-- the words of the members of d are among these
pub record BodyIn (whole : List Part) (d : Decl) : Type 0 where
  pub kind : Kind
  pub around : ℕ
  pub depth : ℕ
  pub words : List Part
  pub members : IsMembers kind around depth words d.members
  pub among : (ps : List Place) → Sub ps words → Sub ps whole

inner_in : {a l : ℕ} (w : List Part) (t : Decl) → IsInner a l w t → BodyIn w t
inner_in _ _ (IsInner.inner {d = d} {n = n} {k = k} o c {u = u} {v = v} {w = w} i es ss ms) =
    record {
      kind = k;
      around = suc d;
      depth = suc n;
      words = w;
      members = ms;
      among = λ ps s. skip
          (skip (behind u (behind v (skip (before _ s)))));
    }

top_in : (w : List Part) (t : Decl) → IsTop w t → BodyIn w t
top_in _ _ (IsTop.top {k = k} o c {u = u} {v = v} {w = w} i es ss ms) =
    record {
      kind = k;
      around = 1;
      depth = 2;
      words = w;
      members = ms;
      among = λ ps s. skip
          (skip (behind u (behind v (skip (before _ s)))));
    }

wider : (w whole : List Part) (d : Decl) → BodyIn w d → ((ps : List Place) → Sub ps w → Sub ps whole) → BodyIn whole d
wider w whole d b f = record {
  kind = b.kind;
  around = b.around;
  depth = b.depth;
  words = b.words;
  members =
      b.members;
  among = λ ps s. f ps (b.among ps s);
}

nested_in : {k : Kind} {a l : ℕ} (w : List Part) (ms : List Member) → IsMembers k a l w ms → (d : Decl)
    → Contains (nested ms) d → BodyIn w d
nested_in _ _ IsMembers.no_member d c = absurd (in_none d c)
nested_in _ _ (IsMembers.then_member {v = v} {w = w} {ts = ts} (IsMember.declared {t = t} i) j) d c =
    elim (in_cons t (nested ts) d (subst (λ (o : Member-F Member Decl). Contains (and_nested o (nested ts)) d)
    (outs-Inner t) c)) [
      | inl is ↦ subst (λ (x : Decl). BodyIn (v ++ w) x) is (wider v (v ++ w) t (inner_in v t i) (λ ps s. before w s))
      | inr h ↦ wider w (v ++ w) d (nested_in w ts j d h) (λ ps s. behind v s)
    ]
nested_in _ _ (IsMembers.then_member {v = v} {w = w} {ts = ts} (IsMember.slot {x = x} p s {t = t} i) j) d c =
    wider w (v ++ w) d (nested_in w ts j d
    (subst (λ (o : Member-F Member Decl). Contains (and_nested o (nested ts)) d)
    (outs-Slot (record { ty = t; name = named x p })) c)) (λ ps s. behind v s)
nested_in _ _ (IsMembers.then_member {v = v} {w = w} {ts = ts}
    (IsMember.method {x = x} p o c' b e {res = res} {ts = ps} {cs = cs} {ss = ss} f g h m) j) d c =
    wider w (v ++ w) d (nested_in w ts j d
    (subst (λ (o : Member-F Member Decl). Contains (and_nested o (nested ts)) d)
    (outs-Body (record { result = res; name = named x p; params = ps; sharing = cs; body = ss })) c))
    (λ ps s. behind v s)

tops_in : {w : List Part} {ds : List Decl} (i : IsProgram w ds) (d : Decl) → Contains ds d → BodyIn (front i) d
tops_in IsProgram.no_top d c = absurd (in_none d c)
tops_in (IsProgram.then_top {v = v} {t = t} {ts = ts} i j) d c =
    elim (in_cons t ts d c) [
      | inl is ↦ subst (λ (x : Decl). BodyIn (v ++ front j) x) is
          (wider v (v ++ front j) t (top_in v t i) (λ ps s. before (front j) s))
      | inr h ↦ wider (front j) (v ++ front j) d (tops_in j d h) (λ ps s. behind v s)
    ]

pub standing_in : (p : Program) {w : List Part} (i : IsProgram w p.decls) (P : Path) (d : Decl) → StandsIn p P d
    → BodyIn (front i) d
standing_in p i [] d c = tops_in i d c
standing_in p i (C ∷ P) d (e, stands, same, c) =
    let above = standing_in p i P e stands in
    wider above.words (front i) d (nested_in above.words e.members above.members d c) above.among
