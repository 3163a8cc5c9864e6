pub mod NarrowRuns
