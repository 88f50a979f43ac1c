-- The nodes of expressions, together.
use Rattle.jn_sem.specs.State.{Heap, Frame}
use Rattle.jn_agree.specs.Follows.{Knows}
use Rattle.jn_node_laws.specs.LawsOfLaidNodes.{LaidNodesFollow}
use Rattle.jn_node_laws.proofs.Simple as simple
use Rattle.jn_node_laws.proofs.Variables as variables
use Rattle.jn_node_laws.proofs.Operates.{operate}
use Rattle.jn_node_laws.proofs.Supers.{bare_super, super, tucks}
use Rattle.jn_node_laws.proofs.Gets.{get}
use Rattle.jn_node_laws.proofs.Views.{view_on}
use Rattle.jn_node_laws.proofs.Calls.{call}
use Rattle.jn_node_laws.proofs.News.{make_on, make_bare}
use Rattle.jn_node_laws.proofs.Decides.{decide}
use Rattle.jn_node_laws.proofs.Nodes.{narrow, moves}

pub laid_follow : (K : Knows) (T : Type 0) (Stands : T → Frame → Heap → Type 0) → LaidNodesFollow K T Stands
laid_follow K T Stands p i n m code it r there rows = record {
  number = simple.number p i n m K T Stands code it there r;
  truth = simple.truth_value p i n m K T Stands code it there r;
  null = simple.null p i n m K T Stands code it there r;
  this = simple.this p i n m K T Stands code it there r;
  read = variables.read p i n m K T Stands code it there r;
  invert = simple.invert p i n m K T Stands code it there r;
  negate = simple.negate p i n m K T Stands code it there r;
  operate = operate p i n m K T Stands code it there r;
  decide = decide p i n m K T Stands code it there r;
  get = get p i n m K T Stands code it there r rows;
  call = call p i n m K T Stands code it there r rows;
  view = view_on p i n m K T Stands code it there r rows;
  make = make_on p i n m K T Stands code it there r rows;
  make_bare = make_bare p i n m K T Stands code it there r rows;
  bare_super = bare_super p i n m K T Stands code it there r rows;
  super = super p i n m K T Stands code it there r rows;
  tucks = tucks p i n m K T Stands code it there r rows;
  narrow = narrow p i n m K T Stands code it there r;
  moves = moves p i n m K T Stands code it there r;
}
