mod CoverLists
mod PlainCovers
mod CellLoops
mod TakenCells
mod SoundCells
mod ReadCovers
mod SoundCovers
mod PlainAsked
mod WrittenAsked
pub mod PlainProposals
pub mod WrittenProposals
mod SoundAsked
mod SoundProposals
mod TakenAsked
mod TakenProposals
pub mod ReadExactly
mod RisingNumbers
mod Signs
mod TakenNeeds
mod SoundNeeds
