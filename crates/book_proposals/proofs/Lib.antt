pub mod FormedCells
pub mod FoundBooks
pub mod LiveOrders
pub mod ProposalsWithin
pub mod ReadAsHandedIn
pub mod ShortLines
pub mod TakenProposals
pub mod Texts
