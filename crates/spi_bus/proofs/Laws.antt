-- The laws of buses, as the contracts of the code name them.
use Rattle.datasheet.specs.Chips.{whole}
use Rattle.datasheet.specs.Kept.{bounded}
use Rattle.spi_model.specs.Laws.{ByteAtPins, Makes, Follows, NeverSpoils, LineIsBus, Same, BothBuses, SessionSamples, AsCalls, BlankReadsOnes, BusKeepsEnough, StaysWhole}
use Rattle.spi_model.proofs.Calls.{byte_at_pins, makes, follows_whole, follows_bounded, line_is_bus, same as same-lines}
use Rattle.spi_model.proofs.Samples.{never_spoils}
use Rattle.spi_model.proofs.Sessions.{session_samples}
use Rattle.spi_model.proofs.AsCalls.{put_as_calls}
use Rattle.spi_model.proofs.Blank.{blank_reads_ones}
use Rattle.spi_model.proofs.Keeps.{bus_keeps_enough}
use Rattle.spi_model.proofs.SteppedBuses.{both_buses}
use Rattle.spi_model.proofs.Whole.{stays_whole}

-- a byte is what the rules of the pins do at its rises and falls
pub bytes : (ByteAtPins whole) × (ByteAtPins bounded)
bytes = (byte_at_pins whole, byte_at_pins bounded)

-- a sample with CS high makes a bus
pub made : (Makes whole) × (Makes bounded)
made = (makes whole, makes bounded)

-- the calls of a line are those of a bus
pub followed : (Follows whole) × (Follows bounded)
followed = (follows_whole, follows_bounded)

-- a line spoils no session
pub unspoiled : (NeverSpoils whole) × (NeverSpoils bounded)
unspoiled = (never_spoils whole follows_whole, never_spoils bounded follows_bounded)

-- a line is a bus, from any state of its chip
pub lines : (LineIsBus whole) × (LineIsBus bounded)
lines = (line_is_bus whole follows_whole, line_is_bus bounded follows_bounded)

-- buses that mean the same are answered the same: two lines, and a chip stepped by bytes and a line
pub same : (Same whole) × (Same bounded) × BothBuses
same = (same-lines whole follows_whole, same-lines bounded follows_bounded, both_buses)

-- the samples of a whole session
pub sessions : SessionSamples
sessions = session_samples

-- samples put by their bytes
pub as_calls : (AsCalls whole) × (AsCalls bounded)
as_calls = (put_as_calls whole, put_as_calls bounded)

-- what a bus keeps of a session is enough, and is always of whole bytes
pub kept : BusKeepsEnough × StaysWhole
kept = (bus_keeps_enough, stays_whole)

-- a blank chip answers FFh
pub blank : (BlankReadsOnes whole) × (BlankReadsOnes bounded)
blank = (blank_reads_ones whole, blank_reads_ones bounded)
