-- `discover::entry_of` meets its contract: order by order. Assumes nothing.
use mathlib.Core.Path.{◌≡◌}
use Prim.Native.Nat.{◌+◌}
use lib.ListN.{length}
use Rattle.discover.proofs.Entering.{orders-eight}
use borrow.Author.Rules.{rules}
use Rattle.discover.proofs.entry_of.Goals as goal

pub returns : goal.returns
returns c =
    let l : length c.args.orders ≡ 8 = search rules in
    orders-eight c.args.orders l (512 + c.args.next) c.with_order-one.result c.with_order-two.result c.with_order-three.result c.with_order-four.result c.with_order-five.result c.with_order-six.result c.with_order-seven.result c.with_order.result
    c.with_order-one.ensures.0 c.with_order-two.ensures.0 c.with_order-three.ensures.0 c.with_order-four.ensures.0 c.with_order-five.ensures.0 c.with_order-six.ensures.0 c.with_order-seven.ensures.0 c.with_order.ensures.0
