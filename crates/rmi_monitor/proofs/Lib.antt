-- Proofs about the simulated RMM, by topic. The first topic: lemmas about lists and tests.
pub mod Comparisons
pub mod Protected
pub mod Listed
pub mod Starting
pub mod Gathered
-- modules about the answer and the effect of a command
pub mod Outcomes
pub mod Refusals
pub mod Checks
-- modules about the map of a realm's RECs, and about the entry of each granule in this map
pub mod RecEntries
pub mod RealmRecs
-- modules about the machine that an RMM's fields represent, and about what a command leaves unchanged in the fields
pub mod Machines
pub mod Frames
pub mod Puts
pub mod RealmPlaces
pub mod RealmAfter
-- modules about single granules, blocks and bytes
pub mod HostMoves
pub mod Granules
pub mod Blocks
pub mod Fresh
pub mod Sums
pub mod Readings
-- modules about realms
pub mod RealmFound
pub mod TableMoves
pub mod RealmCommands
pub mod Activates
pub mod UsedVmids
pub mod RealmCreates
pub mod Creates
pub mod RealmDestroys
pub mod Destroys
-- modules about tables and data
pub mod LedTo
pub mod Located
pub mod TableCreates
pub mod TableDestroys
pub mod TableRipas
pub mod DataPages
pub mod DataMaps
pub mod DataDestroys
pub mod DataUnknown
pub mod DataCreates
pub mod DataBytes
-- modules about RECs
pub mod RecFound
pub mod RecReads
pub mod RecNumbers
pub mod RecNamed
pub mod RecReadings
pub mod RecChanges
pub mod RecRuns
pub mod GuestWrites
pub mod RecMoves
pub mod RecMade
pub mod RecMadeAfter
pub mod RecCreates
pub mod RecGone
pub mod RecGoneAfter
pub mod RecDestroys
pub mod Sweeps
pub mod Walked
-- modules about performing operations, and about the host's read of a byte
pub mod OnRecs
pub mod Pages
-- modules about an RMM that agrees with the world of a history
pub mod Flags
pub mod Ranges
pub mod FreshMirror
pub mod Forward
pub mod Ready
pub mod Backward
pub mod RecsNamed
pub mod BlockSteps
pub mod NewRealm
