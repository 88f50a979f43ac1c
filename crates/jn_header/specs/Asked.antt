-- What is asked of the headers of members.
use Rattle.jn_base.specs.declared.tree.Decl.{Decl}
use Rattle.jn_base.specs.declared.tree.Member.{Member, out-Member}
use Rattle.jn_base.specs.Paths.{Path}
use Rattle.jn_rules.specs.Plans.{Plan, Nothing}
use Rattle.jn_rules.specs.Headers.{decl_headers}
use Rattle.jn_rules.specs.Forms.{member_headers}

-- what is asked of the headers of a member
abbrev pub header_at : Path → Member → Plan Nothing
header_at R m = member_headers R (out-Member m)

-- what is asked of the headers of a declaration in the namespace
abbrev pub headers_in_space : Path → Decl → Plan Nothing
headers_in_space P d = decl_headers d P
