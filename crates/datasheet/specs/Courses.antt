-- The course of an open session: what HOLD makes of it.
use Rattle.std.specs.Prelude.{Bool, true, false, if◌then◌else◌, not}
use Rattle.datasheet.specs.declared.course.Course.{Course}
use Rattle.datasheet.specs.declared.course.Course.TheVariants.{Running, Held, Spoiled}
use Rattle.datasheet.specs.declared.sample.Sample.{Sample}

-- whether clock edges count in it, and SO shows what they set it to
abbrev pub runs : Course → Bool
runs Running = true
runs (Held sck) = false
runs Spoiled = false

-- whether it is spoiled
abbrev pub is_spoiled : Course → Bool
is_spoiled Running = false
is_spoiled (Held sck) = false
is_spoiled Spoiled = true

-- whether SCK is at the same level in two samples
abbrev pub same_level : Bool → Bool → Bool
same_level true sck = sck
same_level false sck = not sck

-- the course after a sample x with CS low
abbrev pub course_after : Course → Sample → Course
-- HOLD low interrupts it, and the level of SCK in this sample is remembered
course_after Running x = if x.hold then Running else Held x.sck
-- while HOLD is low it stays held; HOLD high resumes it if SCK is at the level remembered, and else spoils it
course_after (Held sck) x =
    if not x.hold then Held sck else if same_level sck x.sck then Running else Spoiled
-- nothing mends it
course_after Spoiled x = Spoiled
