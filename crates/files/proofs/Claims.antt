-- The file of a plan within the bounds.
use Rattle.files.specs.Claims.{ClaimPlainFile, ClaimDeclaredFile}
use Rattle.files.proofs.RoundTrip.{plain_is_plain, plain_round_trip, declared_is_declared, declared_round_trip}
use Rattle.files.proofs.Octets.{plain_bytes, declared_bytes}

pub plain : ClaimPlainFile
plain plan fits = let trip = plain_round_trip plan fits in (plain_bytes plan fits, trip.0, plain_is_plain plan, trip.1)

pub declared : ClaimDeclaredFile
declared plan fits = let trip = declared_round_trip plan fits in (declared_bytes plan fits, trip.0, declared_is_declared plan, trip.1)
