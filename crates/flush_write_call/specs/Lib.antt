-- What the steps of the writing call assume and mean.
pub mod Steps
