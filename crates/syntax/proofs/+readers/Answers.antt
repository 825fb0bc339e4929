-- The readers of the productions, one cycle of calls, meet their contracts: each answer is one law of `Productions` at the answers of the parts.
-- Assumes nothing.
use native.Mathlib.Omega.{arith}
use mathlib.Core.List.{◌∷◌}
use mathlib.Core.Path.{sym, refl, subst, ◌≡◌, ◌∙◌}
use mathlib.Core.Bool.{false}
use Rattle.paper.specs.Parse.{s_star, s_slash, s_more, s_bars, s_close, s_sep, s_brace, s_chain, s_emit, c_braces}
use Rattle.paper.specs.Bytes.{is_event}
use Rattle.syntax.specs.Readers.{join_of, here}
use Rattle.syntax.proofs.Steps.{byte-in, goes-bad, open-on, open-brace, intr-no}
use Rattle.syntax.proofs.Reading.{said_at, said-bad, gives-bad, ready_on, ready-behind, bad-under, ready-node}
use Rattle.syntax.proofs.Productions.{group-read, group-bad, once-read, again-read, plain-read, until-read, until-bad, only-read, then-read, then-bad, single-read, half-bad, beside-read, beside-bad, last-read, next-read, next-bad, halved-bad, braces-read, braces-bad, braces-stuck, unclosed, event-in, event-read, treated-read, treated-bad}
use Rattle.syntax.specs.Store.{store}
use Prim.Native.Nat.{ℕ, ◌+◌}
use Rattle.syntax.proofs.+readers.Goals as goal

pub atom-leaf-requires : goal.atom-leaf-requires
atom-leaf-requires t c = record { ready = c.requires; open_mark_value = (sym c.is.ensures ∙ c.if-not-is.true) }

pub atom-overflow_add-at : goal.atom-overflow_add-at
atom-overflow_add-at t c = omega (arith, (byte-in c.args.s.now c.args.at 91 refl (sym c.is.ensures ∙ c.if-not-is.false)), c.requires.short)

pub atom-body-r-requires : goal.atom-body-r-requires
atom-body-r-requires t c = (omega (arith, (byte-in c.args.s.now c.args.at 91 refl (sym c.is.ensures ∙ c.if-not-is.false))), ready_on (c.args.at + 1) (omega arith) c.requires)

pub atom-returns-in_default : goal.atom-returns-in_default
atom-returns-in_default t c = gives-bad c.in_default.is (goes-bad (open-on c.args.s.now c.args.at (sym c.is.ensures ∙ c.if-not-is.false)) (bad-under s_close here (said-bad c.in_default.is c.body-r.ensures)))

pub atom-returns-then-not-is-2 : goal.atom-returns-then-not-is-2
atom-returns-then-not-is-2 t c = record { says = group-bad (sym c.is.ensures ∙ c.if-not-is.false) (said_at c.in-At.is c.body-r.ensures) (sym c.is-2.ensures ∙ c.if-not-is-2.true) }

pub atom-overflow_add-result : goal.atom-overflow_add-result
atom-overflow_add-result t c = omega (arith, byte-in c.args.s.now c.in-At.next 93 refl (sym c.is-2.ensures ∙ c.if-not-is-2.false), c.requires.short)

pub atom-returns : goal.atom-returns
atom-returns t c = record { says = group-read (sym c.is.ensures ∙ c.if-not-is.false) (said_at c.in-At.is c.body-r.ensures) (sym c.is-2.ensures ∙ c.if-not-is-2.false) }

pub body-returns-in_default : goal.body-returns-in_default
body-returns-in_default t c = gives-bad c.in_default.is (bad-under s_bars here (said-bad c.in_default.is c.sequence-r.ensures))

pub body-returns-then-not-is : goal.body-returns-then-not-is
body-returns-then-not-is t c = record { says = single-read (said_at c.in-At.is c.sequence-r.ensures) (sym c.is.ensures ∙ c.if-not-is.true) }

pub body-overflow_add-m : goal.body-overflow_add-m
body-overflow_add-m t c = omega (arith, (byte-in c.args.s.now c.in-At.next 124 refl (sym c.is.ensures ∙ c.if-not-is.false)), c.requires.short)

pub body-returns-then-not-is-2 : goal.body-returns-then-not-is-2
body-returns-then-not-is-2 t c = record { says = half-bad (said_at c.in-At.is c.sequence-r.ensures) (sym c.is.ensures ∙ c.if-not-is.false) (sym c.is-2.ensures ∙ c.if-not-is-2.true) }

pub body-overflow_add-m-2 : goal.body-overflow_add-m-2
body-overflow_add-m-2 t c = omega (arith, (byte-in c.args.s.now (c.in-At.next + 1) 124 refl (sym c.is-2.ensures ∙ c.if-not-is-2.false)), c.requires.short)

pub body-body-q-requires : goal.body-body-q-requires
body-body-q-requires t c = (omega (arith, (byte-in c.args.s.now (c.in-At.next + 1) 124 refl (sym c.is-2.ensures ∙ c.if-not-is-2.false)), (said_at c.in-At.is c.sequence-r.ensures).read.more), ready_on (c.in-At.next + 1 + 1) (omega arith) (ready-behind c.requires (said_at c.in-At.is c.sequence-r.ensures).read))

pub body-returns-in_default-q : goal.body-returns-in_default-q
body-returns-in_default-q t c = gives-bad c.in_default-q.is (beside-bad (said_at c.in-At.is c.sequence-r.ensures) (sym c.is.ensures ∙ c.if-not-is.false) (sym c.is-2.ensures ∙ c.if-not-is-2.false) (said-bad c.in_default-q.is c.body-q.ensures))

pub body-overflow_sub-f : goal.body-overflow_sub-f
body-overflow_sub-f t c = omega (arith, (said_at c.in-At.is c.sequence-r.ensures).read.some)

pub body-put-requires : goal.body-put-requires
body-put-requires t c = record { room = (ready-behind (ready_on (c.in-At.next + 1 + 1) (omega arith) (ready-behind c.requires (said_at c.in-At.is c.sequence-r.ensures).read)) (said_at c.in-At-q.is c.body-q.ensures).read).room; l_le_free = (omega (arith, (said_at c.in-At-q.is c.body-q.ensures).read.some), omega (arith, (byte-in c.args.s.now (c.in-At.next + 1) 124 refl (sym c.is-2.ensures ∙ c.if-not-is-2.false)), c.requires.short)) }

pub body-overflow_add-result : goal.body-overflow_add-result
body-overflow_add-result t c = omega (arith, (ready-behind (ready_on (c.in-At.next + 1 + 1) (omega arith) (ready-behind c.requires (said_at c.in-At.is c.sequence-r.ensures).read)) (said_at c.in-At-q.is c.body-q.ensures).read).few, (said_at c.in-At-q.is c.body-q.ensures).read.within, c.requires.short)

pub body-returns : goal.body-returns
body-returns t c = record { says = beside-read (said_at c.in-At.is c.sequence-r.ensures) (sym c.is.ensures ∙ c.if-not-is.false) (sym c.is-2.ensures ∙ c.if-not-is-2.false) (said_at c.in-At-q.is c.body-q.ensures) c.put.ensures }

pub braces-overflow_add-at : goal.braces-overflow_add-at
braces-overflow_add-at t c = omega (arith, (byte-in c.args.s.now c.args.at 123 refl c.requires.brace_mark_value), c.requires.ready.short)

pub braces-interruption-r-requires : goal.braces-interruption-r-requires
braces-interruption-r-requires t c = (omega (arith, (byte-in c.args.s.now c.args.at 123 refl c.requires.brace_mark_value)), ready_on (c.args.at + 1) (omega arith) c.requires.ready)

pub braces-returns-in_default : goal.braces-returns-in_default
braces-returns-in_default t c = gives-bad c.in_default.is (goes-bad (open-brace c.args.s.now c.args.at c.requires.brace_mark_value) (bad-under s_sep here (said-bad c.in_default.is c.interruption-r.ensures)))

pub braces-returns-then-not-is : goal.braces-returns-then-not-is
braces-returns-then-not-is t c = record { says = braces-bad c.requires.brace_mark_value (said_at c.in-At.is c.interruption-r.ensures) (sym c.is.ensures ∙ c.if-not-is.true) }

pub braces-overflow_add-next : goal.braces-overflow_add-next
braces-overflow_add-next t c = omega (arith, (byte-in c.args.s.now c.in-At.next 124 refl (sym c.is.ensures ∙ c.if-not-is.false)), c.requires.ready.short)

pub braces-past-requires : goal.braces-past-requires
braces-past-requires t c = omega (arith, (byte-in c.args.s.now c.in-At.next 124 refl (sym c.is.ensures ∙ c.if-not-is.false)), c.requires.ready.short)

pub braces-chain-q-requires : goal.braces-chain-q-requires
braces-chain-q-requires t c = (omega (arith, c.past.ensures, (said_at c.in-At.is c.interruption-r.ensures).read.more, (byte-in c.args.s.now c.in-At.next 124 refl (sym c.is.ensures ∙ c.if-not-is.false))), ready_on c.past.result (omega (arith, c.past.ensures)) (ready-behind (ready_on (c.args.at + 1) (omega arith) c.requires.ready) (said_at c.in-At.is c.interruption-r.ensures).read))

pub braces-returns-in_default-q : goal.braces-returns-in_default-q
braces-returns-in_default-q t c = gives-bad c.in_default-q.is (braces-stuck c.is-both.result c.requires.brace_mark_value (said_at c.in-At.is c.interruption-r.ensures) (sym c.is.ensures ∙ c.if-not-is.false) (sym c.is-both.ensures) c.past.ensures (bad-under (s_emit (c_braces (join_of c.is-both.result))) (λ K. s_brace ∷ K) (said-bad c.in_default-q.is c.chain-q.ensures)))

pub braces-returns-then-not-is-2 : goal.braces-returns-then-not-is-2
braces-returns-then-not-is-2 t c = record { says = braces-stuck c.is-both.result c.requires.brace_mark_value (said_at c.in-At.is c.interruption-r.ensures) (sym c.is.ensures ∙ c.if-not-is.false) (sym c.is-both.ensures) c.past.ensures (unclosed (said_at c.in-At-q.is c.chain-q.ensures) (sym c.is-2.ensures ∙ c.if-not-is-2.true)) }

pub braces-overflow_sub-f : goal.braces-overflow_sub-f
braces-overflow_sub-f t c = omega (arith, (said_at c.in-At.is c.interruption-r.ensures).read.some)

pub braces-put-requires : goal.braces-put-requires
braces-put-requires t c = record { room = (ready-behind (ready_on c.past.result (omega (arith, c.past.ensures)) (ready-behind (ready_on (c.args.at + 1) (omega arith) c.requires.ready) (said_at c.in-At.is c.interruption-r.ensures).read)) (said_at c.in-At-q.is c.chain-q.ensures).read).room; l_le_free = (omega (arith, (said_at c.in-At-q.is c.chain-q.ensures).read.some), omega (arith, (byte-in c.args.s.now c.in-At.next 124 refl (sym c.is.ensures ∙ c.if-not-is.false)), c.requires.ready.short)) }

pub braces-overflow_add-result : goal.braces-overflow_add-result
braces-overflow_add-result t c = omega (arith, (byte-in c.args.s.now c.in-At-q.n 125 refl (sym c.is-2.ensures ∙ c.if-not-is-2.false)), c.requires.ready.short, (ready-behind (ready_on c.past.result (omega (arith, c.past.ensures)) (ready-behind (ready_on (c.args.at + 1) (omega arith) c.requires.ready) (said_at c.in-At.is c.interruption-r.ensures).read)) (said_at c.in-At-q.is c.chain-q.ensures).read).few)

pub braces-overflow_add-result-2 : goal.braces-overflow_add-result-2
braces-overflow_add-result-2 t c = omega (arith, (byte-in c.args.s.now c.in-At-q.n 125 refl (sym c.is-2.ensures ∙ c.if-not-is-2.false)), c.requires.ready.short, (ready-behind (ready_on c.past.result (omega (arith, c.past.ensures)) (ready-behind (ready_on (c.args.at + 1) (omega arith) c.requires.ready) (said_at c.in-At.is c.interruption-r.ensures).read)) (said_at c.in-At-q.is c.chain-q.ensures).read).few)

pub braces-returns : goal.braces-returns
braces-returns t c = record { says = braces-read c.is-both.result c.requires.brace_mark_value (said_at c.in-At.is c.interruption-r.ensures) (sym c.is.ensures ∙ c.if-not-is.false) (sym c.is-both.ensures) c.past.ensures (said_at c.in-At-q.is c.chain-q.ensures) (sym c.is-2.ensures ∙ c.if-not-is-2.false) c.join_code.ensures c.put.ensures }

pub chain-returns-in_default : goal.chain-returns-in_default
chain-returns-in_default t c = gives-bad c.in_default.is (bad-under (s_chain (join_of c.args.both)) here (said-bad c.in_default.is c.interruption-r.ensures))

pub chain-returns-then-not-is : goal.chain-returns-then-not-is
chain-returns-then-not-is t c = record { says = last-read (said_at c.in-At.is c.interruption-r.ensures) (sym c.is.ensures ∙ c.if-not-is.true) }

pub chain-overflow_add-next : goal.chain-overflow_add-next
chain-overflow_add-next t c = omega (arith, (byte-in c.args.s.now c.in-At.next 124 refl (sym c.is.ensures ∙ c.if-not-is.false)), c.requires.short)

pub chain-overflow_add-result : goal.chain-overflow_add-result
chain-overflow_add-result t c = omega (arith, (byte-in c.args.s.now c.in-At.next 124 refl (sym c.is.ensures ∙ c.if-not-is.false)), c.requires.short)

pub chain-returns-then-halved : goal.chain-returns-then-halved
chain-returns-then-halved t c = record { says = halved-bad c.args.both (said_at c.in-At.is c.interruption-r.ensures) (sym c.is.ensures ∙ c.if-not-is.false) (sym c.halved.ensures ∙ c.if-halved.true) }

pub chain-past-requires : goal.chain-past-requires
chain-past-requires t c = omega (arith, (byte-in c.args.s.now c.in-At.next 124 refl (sym c.is.ensures ∙ c.if-not-is.false)), c.requires.short)

pub chain-chain-q-requires : goal.chain-chain-q-requires
chain-chain-q-requires t c = (omega (arith, c.past.ensures, (said_at c.in-At.is c.interruption-r.ensures).read.more, (byte-in c.args.s.now c.in-At.next 124 refl (sym c.is.ensures ∙ c.if-not-is.false))), ready_on c.past.result (omega (arith, c.past.ensures)) (ready-behind c.requires (said_at c.in-At.is c.interruption-r.ensures).read))

pub chain-returns-in_default-q : goal.chain-returns-in_default-q
chain-returns-in_default-q t c = gives-bad c.in_default-q.is (next-bad c.args.both (said_at c.in-At.is c.interruption-r.ensures) (sym c.is.ensures ∙ c.if-not-is.false) (sym c.halved.ensures ∙ c.if-halved.false) c.past.ensures (said-bad c.in_default-q.is c.chain-q.ensures))

pub chain-overflow_sub-f : goal.chain-overflow_sub-f
chain-overflow_sub-f t c = omega (arith, (said_at c.in-At.is c.interruption-r.ensures).read.some)

pub chain-put-requires : goal.chain-put-requires
chain-put-requires t c = record { room = (ready-behind (ready_on c.past.result (omega (arith, c.past.ensures)) (ready-behind c.requires (said_at c.in-At.is c.interruption-r.ensures).read)) (said_at c.in-At-q.is c.chain-q.ensures).read).room; l_le_free = (omega (arith, (said_at c.in-At-q.is c.chain-q.ensures).read.some), omega (arith, (byte-in c.args.s.now c.in-At.next 124 refl (sym c.is.ensures ∙ c.if-not-is.false)), c.requires.short)) }

pub chain-overflow_add-result-2 : goal.chain-overflow_add-result-2
chain-overflow_add-result-2 t c = omega (arith, (ready-behind (ready_on c.past.result (omega (arith, c.past.ensures)) (ready-behind c.requires (said_at c.in-At.is c.interruption-r.ensures).read)) (said_at c.in-At-q.is c.chain-q.ensures).read).few, (said_at c.in-At-q.is c.chain-q.ensures).read.within, c.requires.short)

pub chain-returns : goal.chain-returns
chain-returns t c = record { says = next-read c.args.both (said_at c.in-At.is c.interruption-r.ensures) (sym c.is.ensures ∙ c.if-not-is.false) (sym c.halved.ensures ∙ c.if-halved.false) c.past.ensures (said_at c.in-At-q.is c.chain-q.ensures) c.join_code.ensures c.put.ensures }

pub event-returns-then-not-is_event : goal.event-returns-then-not-is_event
event-returns-then-not-is_event t c = record { says = intr-no c.args.s.now c.args.at c.requires.brace_mark_value (subst (λ (b : ℕ). is_event b ≡ false) c.byte_at-b.ensures (sym c.is_event.ensures ∙ c.if-not-is_event.true)) }

pub event-put-requires : goal.event-put-requires
event-put-requires t c = record { room = c.requires.ready.room; l_le_free = (omega arith, omega (arith, (event-in c.args.s.now c.args.at c.byte_at-b.result c.byte_at-b.ensures (sym c.is_event.ensures ∙ c.if-not-is_event.false)), c.requires.ready.short)) }

pub event-overflow_add-n : goal.event-overflow_add-n
event-overflow_add-n t c = omega (arith, (event-in c.args.s.now c.args.at c.byte_at-b.result c.byte_at-b.ensures (sym c.is_event.ensures ∙ c.if-not-is_event.false)), c.requires.ready.short, c.requires.ready.few)

pub event-overflow_add-f : goal.event-overflow_add-f
event-overflow_add-f t c = omega (arith, (event-in c.args.s.now c.args.at c.byte_at-b.result c.byte_at-b.ensures (sym c.is_event.ensures ∙ c.if-not-is_event.false)), c.requires.ready.short, c.requires.ready.few)

pub event-returns-then-not-is : goal.event-returns-then-not-is
event-returns-then-not-is t c = record { says = event-read c.args.s.now c.args.at _ _ c.byte_at-b.result c.byte_at-b.ensures c.requires.brace_mark_value (sym c.is_event.ensures ∙ c.if-not-is_event.false) c.put.ensures (sym c.is.ensures ∙ c.if-not-is.true) }

pub event-overflow_add-n-2 : goal.event-overflow_add-n-2
event-overflow_add-n-2 t c = omega (arith, (byte-in c.args.s.now (c.args.at + 1) 58 refl (sym c.is.ensures ∙ c.if-not-is.false)), c.requires.ready.short)

pub event-item-q-requires : goal.event-item-q-requires
event-item-q-requires t c = (omega (arith, (byte-in c.args.s.now (c.args.at + 1) 58 refl (sym c.is.ensures ∙ c.if-not-is.false))), (ready-node (c.args.at + 1 + 1) c.byte_at-b.result 0 c.args.at (omega arith) c.requires.ready c.put.ensures))

pub event-returns-in_default : goal.event-returns-in_default
event-returns-in_default t c = gives-bad c.in_default.is (treated-bad c.args.s.now c.args.at (store c.args.code.now c.args.left.now c.args.place.now c.args.free) _ c.byte_at-b.result c.byte_at-b.ensures c.requires.brace_mark_value (sym c.is_event.ensures ∙ c.if-not-is_event.false) c.put.ensures (sym c.is.ensures ∙ c.if-not-is.false) (said-bad c.in_default.is c.item-q.ensures))

pub event-put-requires-2 : goal.event-put-requires-2
event-put-requires-2 t c = record { room = (ready-behind (ready-node (c.args.at + 1 + 1) c.byte_at-b.result 0 c.args.at (omega arith) c.requires.ready c.put.ensures) (said_at c.in-At.is c.item-q.ensures).read).room; l_le_free = (omega (arith, (said_at c.in-At.is c.item-q.ensures).read.some), omega (arith, (byte-in c.args.s.now (c.args.at + 1) 58 refl (sym c.is.ensures ∙ c.if-not-is.false)), c.requires.ready.short)) }

pub event-overflow_add-result : goal.event-overflow_add-result
event-overflow_add-result t c = omega (arith, (ready-behind (ready-node (c.args.at + 1 + 1) c.byte_at-b.result 0 c.args.at (omega arith) c.requires.ready c.put.ensures) (said_at c.in-At.is c.item-q.ensures).read).few, (said_at c.in-At.is c.item-q.ensures).read.within, c.requires.ready.short)

pub event-returns : goal.event-returns
event-returns t c = record { says = treated-read c.args.s.now c.args.at _ _ c.byte_at-b.result c.byte_at-b.ensures c.requires.brace_mark_value (sym c.is_event.ensures ∙ c.if-not-is_event.false) c.put.ensures (sym c.is.ensures ∙ c.if-not-is.false) (said_at c.in-At.is c.item-q.ensures) c.put-2.ensures }

pub interruption-braces-requires : goal.interruption-braces-requires
interruption-braces-requires t c = (omega arith, (c.requires, sym c.is.ensures ∙ c.if-is.true))

pub interruption-event-requires : goal.interruption-event-requires
interruption-event-requires t c = (omega arith, (c.requires, sym c.is.ensures ∙ c.if-is.false))

pub item-returns-in_default : goal.item-returns-in_default
item-returns-in_default t c = gives-bad c.in_default.is (bad-under s_slash here (said-bad c.in_default.is c.starred-r.ensures))

pub item-returns-then-not-is : goal.item-returns-then-not-is
item-returns-then-not-is t c = record { says = plain-read (said_at c.in-At.is c.starred-r.ensures) (sym c.is.ensures ∙ c.if-not-is.true) }

pub item-overflow_add-next : goal.item-overflow_add-next
item-overflow_add-next t c = omega (arith, (byte-in c.args.s.now c.in-At.next 47 refl (sym c.is.ensures ∙ c.if-not-is.false)), c.requires.short)

pub item-interruption-q-requires : goal.item-interruption-q-requires
item-interruption-q-requires t c = (omega (arith, (byte-in c.args.s.now c.in-At.next 47 refl (sym c.is.ensures ∙ c.if-not-is.false)), (said_at c.in-At.is c.starred-r.ensures).read.more), ready_on (c.in-At.next + 1) (omega arith) (ready-behind c.requires (said_at c.in-At.is c.starred-r.ensures).read))

pub item-returns-in_default-q : goal.item-returns-in_default-q
item-returns-in_default-q t c = gives-bad c.in_default-q.is (until-bad (said_at c.in-At.is c.starred-r.ensures) (sym c.is.ensures ∙ c.if-not-is.false) (said-bad c.in_default-q.is c.interruption-q.ensures))

pub item-overflow_sub-f : goal.item-overflow_sub-f
item-overflow_sub-f t c = omega (arith, (said_at c.in-At.is c.starred-r.ensures).read.some)

pub item-put-requires : goal.item-put-requires
item-put-requires t c = record { room = (ready-behind (ready_on (c.in-At.next + 1) (omega arith) (ready-behind c.requires (said_at c.in-At.is c.starred-r.ensures).read)) (said_at c.in-At-q.is c.interruption-q.ensures).read).room; l_le_free = (omega (arith, (said_at c.in-At-q.is c.interruption-q.ensures).read.some), omega (arith, (byte-in c.args.s.now c.in-At.next 47 refl (sym c.is.ensures ∙ c.if-not-is.false)), c.requires.short)) }

pub item-overflow_add-result : goal.item-overflow_add-result
item-overflow_add-result t c = omega (arith, (ready-behind (ready_on (c.in-At.next + 1) (omega arith) (ready-behind c.requires (said_at c.in-At.is c.starred-r.ensures).read)) (said_at c.in-At-q.is c.interruption-q.ensures).read).few, (said_at c.in-At-q.is c.interruption-q.ensures).read.within, c.requires.short)

pub item-returns : goal.item-returns
item-returns t c = record { says = until-read (said_at c.in-At.is c.starred-r.ensures) (sym c.is.ensures ∙ c.if-not-is.false) (said_at c.in-At-q.is c.interruption-q.ensures) c.put.ensures }

pub sequence-returns-in_default : goal.sequence-returns-in_default
sequence-returns-in_default t c = gives-bad c.in_default.is (bad-under s_more here (said-bad c.in_default.is c.item-r.ensures))

pub sequence-returns-then-not-atom_at : goal.sequence-returns-then-not-atom_at
sequence-returns-then-not-atom_at t c = record { says = only-read (said_at c.in-At.is c.item-r.ensures) (sym c.atom_at.ensures ∙ c.if-not-atom_at.true) }

pub sequence-sequence-q-requires : goal.sequence-sequence-q-requires
sequence-sequence-q-requires t c = (omega (arith, (said_at c.in-At.is c.item-r.ensures).read.more, (said_at c.in-At.is c.item-r.ensures).read.within), (ready-behind c.requires (said_at c.in-At.is c.item-r.ensures).read))

pub sequence-returns-in_default-q : goal.sequence-returns-in_default-q
sequence-returns-in_default-q t c = gives-bad c.in_default-q.is (then-bad (said_at c.in-At.is c.item-r.ensures) (sym c.atom_at.ensures ∙ c.if-not-atom_at.false) (said-bad c.in_default-q.is c.sequence-q.ensures))

pub sequence-overflow_sub-f : goal.sequence-overflow_sub-f
sequence-overflow_sub-f t c = omega (arith, (said_at c.in-At.is c.item-r.ensures).read.some)

pub sequence-put-requires : goal.sequence-put-requires
sequence-put-requires t c = record { room = (ready-behind (ready-behind c.requires (said_at c.in-At.is c.item-r.ensures).read) (said_at c.in-At-q.is c.sequence-q.ensures).read).room; l_le_free = (omega (arith, (said_at c.in-At-q.is c.sequence-q.ensures).read.some), omega arith) }

pub sequence-overflow_add-result : goal.sequence-overflow_add-result
sequence-overflow_add-result t c = omega (arith, (ready-behind (ready-behind c.requires (said_at c.in-At.is c.item-r.ensures).read) (said_at c.in-At-q.is c.sequence-q.ensures).read).few, (said_at c.in-At-q.is c.sequence-q.ensures).read.within, c.requires.short)

pub sequence-returns : goal.sequence-returns
sequence-returns t c = record { says = then-read (said_at c.in-At.is c.item-r.ensures) (sym c.atom_at.ensures ∙ c.if-not-atom_at.false) (said_at c.in-At-q.is c.sequence-q.ensures) c.put.ensures }

pub starred-returns-in_default : goal.starred-returns-in_default
starred-returns-in_default t c = gives-bad c.in_default.is (bad-under s_star here (said-bad c.in_default.is c.atom-r.ensures))

pub starred-returns-then-not-is : goal.starred-returns-then-not-is
starred-returns-then-not-is t c = record { says = once-read (said_at c.in-At.is c.atom-r.ensures) (sym c.is.ensures ∙ c.if-not-is.true) }

pub starred-put-requires : goal.starred-put-requires
starred-put-requires t c = record { room = (ready-behind c.requires (said_at c.in-At.is c.atom-r.ensures).read).room; l_le_free = (omega arith, omega (arith, (byte-in c.args.s.now c.in-At.next 42 refl (sym c.is.ensures ∙ c.if-not-is.false)), c.requires.short)) }

pub starred-overflow_add-result : goal.starred-overflow_add-result
starred-overflow_add-result t c = omega (arith, (byte-in c.args.s.now c.in-At.next 42 refl (sym c.is.ensures ∙ c.if-not-is.false)), c.requires.short, (ready-behind c.requires (said_at c.in-At.is c.atom-r.ensures).read).few)

pub starred-overflow_add-result-2 : goal.starred-overflow_add-result-2
starred-overflow_add-result-2 t c = omega (arith, (byte-in c.args.s.now c.in-At.next 42 refl (sym c.is.ensures ∙ c.if-not-is.false)), c.requires.short, (ready-behind c.requires (said_at c.in-At.is c.atom-r.ensures).read).few)

pub starred-returns : goal.starred-returns
starred-returns t c = record { says = again-read (said_at c.in-At.is c.atom-r.ensures) (sym c.is.ensures ∙ c.if-not-is.false) c.put.ensures }
