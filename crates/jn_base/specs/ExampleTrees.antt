-- Small programs, by what their class tables need.
use Rattle.std.specs.Prelude.{ℕ, List, [], map, None}
use Rattle.jn_base.specs.declared.tree.Name.{Name}
use Rattle.jn_base.specs.declared.tree.Place.{Place}
use Rattle.jn_base.specs.declared.tree.Named.{Named}
use Rattle.jn_base.specs.declared.tree.Kind.{Kind}
use Rattle.jn_base.specs.declared.tree.Kind.TheVariants as kind
use Rattle.jn_base.specs.declared.tree.Program.{Program}
use Rattle.jn_base.specs.declared.tree.Decl.{Decl}
use Rattle.jn_base.specs.declared.tree.Member.{Member}
use Rattle.jn_base.specs.declared.tree.Member.TheVariants as member
use Rattle.jn_base.specs.declared.tree.TypeTerm.TheVariants as type

abbrev pub name : ℕ → Name
name n = record { 0 = n }

-- places are told by the line alone
abbrev pub line : ℕ → Place
line n = record { line = n; column = 1 }

abbrev pub word : Name → Named
word n = record { name = n; at = line 1 }

abbrev pub declaration : Kind → ℕ → Name → List Name → List Member → Decl
declaration k at n extends members = record {
  kind = k;
  name = record { name = n; at = line at };
  extends = map word extends;
  shares = [];
  adapts = [];
  members = members;
}

-- package n extends .. { .. }, on a line
abbrev pub package_at : ℕ → Name → List Name → List Member → Decl
package_at at n extends members = declaration kind.Package at n extends members

abbrev pub inner : Kind → ℕ → Name → List Name → List Member → Member
inner k at n extends members = member.Inner (declaration k at n extends members)

-- class n extends .. { .. }, in a body
abbrev pub class_in : Name → List Name → List Member → Member
class_in n extends members = inner kind.Class 1 n extends members

abbrev pub method : Name → Member
method n = member.Body (record { result = None; name = word n; params = []; sharing = []; body = [] })

abbrev pub field : Name → Member
field n = member.Slot (record { ty = type.Int; name = word n })

abbrev pub program : List Decl → Program
program ds = record { names = []; texts = []; decls = ds }
