-- Proofs about the realm model, by topic. The first topic: lemmas on Booleans, lists and maps.
pub mod Booleans
pub mod Lists
pub mod SetEach
pub mod Maps
pub mod Roots
pub mod Same
pub mod SameAct
pub mod PairedKinds
-- modules on the updates of a command, and on their effect
pub mod Outcomes
pub mod Walks
pub mod Leases
pub mod Lengths
pub mod RealmOf
pub mod Written
pub mod NewRealms
pub mod Puts
pub mod Changes
-- modules on leaving out a build
pub mod UsedVmids
pub mod Clean
pub mod HiddenUpdates
pub mod HiddenSteps
pub mod LeftOut
-- modules on histories with one more event, and on open operations
pub mod Stack
pub mod Growth
pub mod HistoryParts
pub mod Reached
-- the module on the events of one build alone
pub mod TakenAlone
-- modules on the conditions and the effect of a step
pub mod StepSays
pub mod Blocks
pub mod StepBack
-- modules on the pages of builds, and on the free set
pub mod Pages
pub mod FreeSets
-- modules on the invariants of reached worlds
pub mod Parts
pub mod RowKinds
pub mod Rows
pub mod TablePlaces
pub mod TableBack
pub mod SoundRows
pub mod FullRows
pub mod EmptyRows
pub mod SoundCells
pub mod SoundParts
pub mod Roles
pub mod ListedRoles
pub mod RoleChanges
pub mod RowRoles
pub mod RecRoles
pub mod RealmRoles
pub mod Linked
pub mod Reaching
pub mod ZeroPages
pub mod Vmids
pub mod Reachable
-- modules on the history capacity that builds use
pub mod RunningRecs
pub mod RealmAfter
pub mod PartRealm
pub mod Room
pub mod Accepted
-- modules on worlds with the same ownership, and on undoing operations
pub mod OwnsSame
pub mod Unpaired
pub mod Reversal
pub mod PairBack
pub mod Chain
pub mod OwnLaws
pub mod Emptied
pub mod Progress
pub mod PairsLeadBack
-- modules on the realm of a build, by the build's history
pub mod RealmNumbers
pub mod OpenRealm
pub mod OpenVmids
-- modules on two adjacent events of different builds
pub mod GoesThere
pub mod Commuting
-- modules on undoing all operations of a build
pub mod Rests
pub mod AtRest
pub mod UndoAll
pub mod Aborting
-- modules on the ownership after an operation
pub mod SameMappings
pub mod Alike
pub mod OwnFollows
-- modules on marks, and on rollbacks to a mark
pub mod StaysThere
pub mod OthersGoOn
pub mod RollBack
pub mod Marks
-- the module with examples of histories
pub mod Examples
-- modules on the RECs and the VMID of a build's realm, by the build's open operations
pub mod EachOfRange
pub mod Made
pub mod RecLists
pub mod RecsAfter
pub mod RecsOpen
pub mod VmidsFollow
