-- The grammar of declarations and programs. `IsX d w t`: the words w are an X with the tree t, where d marks and prefix
-- operators are open around them.
use Rattle.std.specs.Prelude.{ℕ, suc, Bool, List, [], ◌∷◌, ◌++◌, Option, Some, None}
use Rattle.jn_base.specs.declared.tree.Name.{Name}
use Rattle.jn_base.specs.declared.tree.Place.{Place}
use Rattle.jn_base.specs.declared.tree.Named.{Named}
use Rattle.jn_base.specs.declared.tree.Kind.{Kind}
use Rattle.jn_base.specs.declared.tree.Kind.TheVariants as kind
use Rattle.jn_base.specs.declared.tree.TypeTerm.{TypeTerm}
use Rattle.jn_base.specs.declared.tree.ViewTerm.{ViewTerm}
use Rattle.jn_base.specs.declared.tree.Param.{Param}
use Rattle.jn_base.specs.declared.tree.Constraint.{Constraint}
use Rattle.jn_base.specs.declared.tree.Stmt.{Stmt}
use Rattle.jn_base.specs.declared.tree.Decl.{Decl, roll-Decl}
use Rattle.jn_base.specs.declared.tree.Member.{Member}
use Rattle.jn_base.specs.declared.tree.Member.TheVariants as member
use Rattle.jn_base.specs.declared.word.Keyword.{Keyword}
use Rattle.jn_base.specs.declared.word.Keyword.TheVariants.{Adapts, Class, Extends, Package, Shares, Sharing, Void}
use Rattle.jn_base.specs.declared.word.Mark.TheVariants.{Ampersand, Arrow, CloseBrace, CloseParen, Comma, OpenBrace, OpenParen, Semicolon}
use Rattle.jn_base.specs.Parts.{Part, Declares, Parameter, key, mark, name, opening, new_name, end_of_file, named}
use Rattle.jn_base.specs.GrammarTypes.{IsView, IsType}
use Rattle.jn_base.specs.GrammarStmt.{IsFinal, IsStmts}

-- Param = ["final"] Type Name, the k-th of its method
pub data IsParam : ℕ → ℕ → List Part → Param → Type 0 where
  param : {d k : ℕ} {x : Name} (p : Place) {u v : List Part} {fixed : Bool} {t : TypeTerm} → IsFinal u fixed → IsType d v t
      → IsParam d k (u ++ (v ++ new_name (Parameter k) x p ∷ [])) (record { fixed = fixed; ty = t; name = named x p })

-- { "," Param }, the first of them the k-th
pub data IsMoreParams : ℕ → ℕ → List Part → List Param → Type 0 where
  no_more_param : {d k : ℕ} → IsMoreParams d k [] []
  then_param : {d k : ℕ} {o : Place} {v w : List Part} {t : Param} {ts : List Param} → IsParam d k v t → IsMoreParams d (suc k) w ts
      → IsMoreParams d k (mark Comma o ∷ (v ++ w)) (t ∷ ts)

-- [Param { "," Param }]
pub data IsParams : ℕ → List Part → List Param → Type 0 where
  no_param : {d : ℕ} → IsParams d [] []
  params : {d : ℕ} {v w : List Part} {t : Param} {ts : List Param} → IsParam d 1 v t → IsMoreParams d 2 w ts → IsParams d (v ++ w) (t ∷ ts)

-- Rel = View "->" View
pub data IsRel : ℕ → List Part → Constraint → Type 0 where
  rel : {d : ℕ} (o : Place) {v w : List Part} {s t : ViewTerm} → IsView d v s → IsView d w t
      → IsRel d (v ++ mark Arrow o ∷ w) (record { from = s; to = t })

-- { "," Rel }
pub data IsMoreRels : ℕ → List Part → List Constraint → Type 0 where
  no_more_rel : {d : ℕ} → IsMoreRels d [] []
  then_rel : {d : ℕ} {o : Place} {v w : List Part} {r : Constraint} {rs : List Constraint} → IsRel d v r → IsMoreRels d w rs
      → IsMoreRels d (mark Comma o ∷ (v ++ w)) (r ∷ rs)

-- ["sharing" Rel { "," Rel }]
pub data IsSharing : ℕ → List Part → List Constraint → Type 0 where
  no_sharing : {d : ℕ} → IsSharing d [] []
  sharing : {d : ℕ} {o : Place} {v w : List Part} {r : Constraint} {rs : List Constraint} → IsRel d v r → IsMoreRels d w rs
      → IsSharing d (key Sharing o ∷ (v ++ w)) (r ∷ rs)

-- Type | "void"
pub data IsResult : ℕ → List Part → Option TypeTerm → Type 0 where
  no_result : {d : ℕ} {p : Place} → IsResult d (key Void p ∷ []) None
  result : {d : ℕ} {w : List Part} {t : TypeTerm} → IsType d w t → IsResult d w (Some t)

-- Name { "&" Name }
pub data IsListed : List Part → List Named → Type 0 where
  last_name : {x : Name} {p : Place} → IsListed (name x p ∷ []) (named x p ∷ [])
  then_name : {x : Name} {p o : Place} {w : List Part} {xs : List Named} → IsListed w xs
      → IsListed (name x p ∷ mark Ampersand o ∷ w) (named x p ∷ xs)

-- [keyword Names], where Names = Name { "&" Name }
pub data IsList : Keyword → List Part → List Named → Type 0 where
  no_list : {k : Keyword} → IsList k [] []
  list : {k : Keyword} {p : Place} {w : List Part} {xs : List Named} → IsListed w xs → IsList k (key k p ∷ w) xs

-- "class" | "package"
pub data IsKind : Part → Kind → Type 0 where
  a_class : {p : Place} → IsKind (key Class p) kind.Class
  a_package : {p : Place} → IsKind (key Package p) kind.Package

abbrev pub decl : Kind → Named → List Named → List Named → List Named → List Member → Decl
decl k x es ss adapted ms = roll-Decl (record { kind = k; name = x; extends = es; shares = ss; adapts = adapted; members = ms })

mutual
  -- Inner = ("class"|"package") Name ["extends" Names] ["shares" Names] Body, at the depth n
  pub data IsInner : ℕ → ℕ → List Part → Decl → Type 0 where
    inner : {d n : ℕ} {k : Kind} {x : Name} {p : Place} (o c : Place) {t : Part} {u v w : List Part} {es ss : List Named} {ms : List Member}
        → IsKind t k → IsList Extends u es → IsList Shares v ss → IsMembers k (suc d) (suc n) w ms
        → IsInner d n (t ∷ new_name (Declares n) x p ∷ (u ++ (v ++ (opening d OpenBrace o ∷ (w ++ mark CloseBrace c ∷ [])))))
        (decl k (named x p) es ss [] ms)

  -- Member = Inner | Type Name ";" | Method, where a method is
  -- (Type | "void") Name "(" [Param { "," Param }] ")" ["sharing" Rel { "," Rel }] Block. In a package only Inner stands.
  pub data IsMember : Kind → ℕ → ℕ → List Part → Member → Type 0 where
    declared : {k : Kind} {d n : ℕ} {w : List Part} {t : Decl} → IsInner d n w t → IsMember k d n w (member.Inner t)
    slot : {d n : ℕ} {x : Name} (p s : Place) {w : List Part} {t : TypeTerm} → IsType d w t
        → IsMember kind.Class d n (w ++ name x p ∷ mark Semicolon s ∷ []) (member.Slot (record { ty = t; name = named x p }))
    method : {d n m : ℕ} {x : Name} (p o c b e : Place) {r v u w : List Part} {res : Option TypeTerm} {ts : List Param}
        {cs : List Constraint} {ss : List Stmt}
        → IsResult d r res → IsParams (suc d) v ts → IsSharing d u cs → IsStmts (suc d) 0 w ss m
        → IsMember kind.Class d n
        (r ++ (name x p ∷ opening d OpenParen o ∷ (v ++ (mark CloseParen c ∷ (u ++ (opening d OpenBrace b ∷ (w ++ mark CloseBrace e ∷ [])))))))
        (member.Body (record { result = res; name = named x p; params = ts; sharing = cs; body = ss }))

  -- { Member }, of a class or a package
  pub data IsMembers : Kind → ℕ → ℕ → List Part → List Member → Type 0 where
    no_member : {k : Kind} {d n : ℕ} → IsMembers k d n [] []
    then_member : {k : Kind} {d n : ℕ} {v w : List Part} {t : Member} {ts : List Member} → IsMember k d n v t → IsMembers k d n w ts
        → IsMembers k d n (v ++ w) (t ∷ ts)

-- Top = ("class"|"package") Name ["extends" Names] ["adapts" Names] Body
pub data IsTop : List Part → Decl → Type 0 where
  top : {k : Kind} {x : Name} {p : Place} (o c : Place) {t : Part} {u v w : List Part} {es adapted : List Named} {ms : List Member}
      → IsKind t k → IsList Extends u es → IsList Adapts v adapted → IsMembers k 1 2 w ms
      → IsTop (t ∷ new_name (Declares 1) x p ∷ (u ++ (v ++ (opening 0 OpenBrace o ∷ (w ++ mark CloseBrace c ∷ [])))))
      (decl k (named x p) es [] adapted ms)

-- Program = { Top }, and the end of the file
pub data IsProgram : List Part → List Decl → Type 0 where
  no_top : {p : Place} → IsProgram (end_of_file p ∷ []) []
  then_top : {v w : List Part} {t : Decl} {ts : List Decl} → IsTop v t → IsProgram w ts → IsProgram (v ++ w) (t ∷ ts)
