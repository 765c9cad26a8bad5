-- Examples of small histories, and of the worlds that they lead to.
-- First, the functions that build the histories.
pub mod Worlds
-- pages of two builds
pub mod Granules
-- realms and RECs
pub mod Realms
pub mod Wide
pub mod Recs
-- translation tables, pages of data and measurements
pub mod Tables
pub mod TwoTables
pub mod Ram
pub mod Data
pub mod Numbers
pub mod WideTables
pub mod Measured
-- rollbacks to a mark
pub mod Marks
-- the same events of two builds in two sequences, with the same world at the end
pub mod Orders
