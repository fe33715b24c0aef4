-- How a server of HTTP/2 begins: with the head of a frame SETTINGS, a length of three bytes and the type 4
-- (RFC 9113, 3.4, 4.1 and 6.5). No reply begins so: with the status 0 the length of the text and the flag
-- are 0.
use Rattle.std.specs.Prelude.{ℕ, ◌==◌, ◌&&◌, Bool, List, length, nat_lt, slice_index}

-- true if the first `count` of these bytes are the head of a frame SETTINGS of fewer than 256 bytes
abbrev pub begins_http2 : List ℕ → ℕ → Bool
begins_http2 bytes count =
    nat_lt 3 (length bytes) && nat_lt 3 count && (slice_index bytes 0 == 0) && (slice_index bytes 1 == 0) && (slice_index bytes 3 == 4)
