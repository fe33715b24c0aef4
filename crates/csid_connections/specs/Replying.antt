-- The state of the reply that is being written.
use Rattle.std.specs.Prelude.{Bool, true, false}
use Rattle.csid_connections.specs.declared.peer.Reply.{Reply}
use Rattle.csid_connections.specs.declared.peer.Reply.TheVariants.{Between, Open, Cut}

-- a reply that begins: it is written if it holds, and otherwise no byte is written any more
abbrev pub begun : Bool → Reply
begun true = Open
begun false = Cut

-- a reply that holds has begun
abbrev pub is_open : Reply → Bool
is_open Between = false
is_open Open = true
is_open Cut = false

-- a reply did not hold
abbrev pub is_cut : Reply → Bool
is_cut Between = false
is_cut Open = false
is_cut Cut = true

-- the state after a reply: it is asked again whether the next reply holds, unless one did not hold
abbrev pub after_reply : Reply → Reply
after_reply Between = Between
after_reply Open = Between
after_reply Cut = Cut
