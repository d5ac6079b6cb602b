pub mod Disks
pub mod Firsts
pub mod Looking
pub mod Misplaced
pub mod Sectors
pub mod Showing
